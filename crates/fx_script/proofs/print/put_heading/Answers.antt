use Rattle.std.proofs.Common.{◌≡◌, [], ◌∷◌, ◌++◌, ℕ, ℤ, List, OnOk, codes, subst, ap, sym, ◌∙◌, w64, to_z, of_z, rules}
use Rattle.fx_script.specs.Canonical.{text_of}
use Rattle.fx_script.specs.Spelling.{heading}
use Rattle.fx_script.proofs.TextLemmas.{ended}
use Rattle.fx_script.proofs.JobText.{numbered, heading_text, in_four}
use Rattle.fx_script.proofs.print.put_heading.Goals as goal

pub returns : goal.returns
returns c =
    let job = c.args.job.now in
    let start = c.args.out.now in
    let ranks : to_z w64 (of_z w64 c.args.job.now.ranks) ≡ c.args.job.now.ranks = search rules in
    let spares : to_z w64 (of_z w64 c.args.job.now.spares) ≡ c.args.job.now.spares = search rules in
    let separation : to_z w64 (of_z w64 c.args.job.now.separation) ≡ c.args.job.now.separation = search rules in
    let two : c.put_numbered.new.out ≡ c.put_bare.new.out ++ numbered (codes "ranks") job.ranks =
    c.in_ok-put_numbered.ensures ∙ ap (λ (n : ℤ). c.put_bare.new.out ++ numbered (codes "ranks") n) ranks in
    let three : c.put_numbered-2.new.out ≡ c.put_numbered.new.out ++ numbered (codes "spares") job.spares =
    c.in_ok-put_numbered-2.ensures ∙ ap (λ (n : ℤ). c.put_numbered.new.out ++ numbered (codes "spares") n) spares in
    let e : c.put_numbered-2.new.out ++ numbered (codes "separation") (to_z w64 (of_z w64 c.args.job.now.separation)) ≡ start ++ text_of (heading job) =
    ap (λ (n : ℤ). c.put_numbered-2.new.out ++ numbered (codes "separation") n) separation
    ∙ in_four start (ended (codes "fenix 1" ∷ [])) (numbered (codes "ranks") job.ranks) (numbered (codes "spares") job.spares) (numbered (codes "separation") job.separation)
    c.put_bare.new.out c.put_numbered.new.out c.put_numbered-2.new.out c.in_ok-put_bare.ensures two three
    ∙ ap (λ (l : List ℕ). start ++ l) (sym (heading_text job)) in
    subst (λ (text : List ℕ). OnOk c.put_numbered-3.result (c.put_numbered-3.new.out ≡ text)) e c.put_numbered-3.ensures
