use Rattle.std.proofs.Common.{◌≡◌, ◌∷◌, ◌++◌, [], ◌≤◌, true, length, map, None, slice_get, sym, ap, subst, ◌∙◌, arith}
use Rattle.std.specs.List.{flat_map}
use Rattle.std.specs.FinMap.{entries, len-entries}
use Rattle.std.proofs.lemmas.List.{length-map}
use Rattle.fx_store.specs.Packed.{Spells, section_bytes, section_of, spelling_of}
use Rattle.fx_store.proofs.Spellings.{spelled}
use Rattle.fx_pack.proofs.FirstRuns.{few_members, member_bounds, one_member_at, all_members, drop_all, none_past, fits_to_be_spelled, members_have_64_bits}
use Rattle.fx_pack.proofs.writing.pack.Goals as goal
use Rattle.fx_pack.proofs.writing.pack.Goals.{in-Some+in_ok-push_member, in_default}

pub overflow_cast-count : goal.overflow_cast-count
overflow_cast-count c = omega (arith, few_members c.args.snapshot.now c.len-count.ensures.bounded, len-entries c.args.snapshot.now, c.len-count.ensures.len)

pub loop-k-init : goal.loop-k-init
loop-k-init c =
    let es = entries c.args.snapshot.now in
    let count : c.len-count.result ≡ length (map section_of es) = c.len-count.ensures.len ∙ len-entries c.args.snapshot.now ∙ sym (length-map es section_of) in
    let head : c.append.new.self ≡ 70 ∷ 88 ∷ 1 ∷ c.len-count.result ∷ [] = c.in_ok-append.ensures.ok ∙ ap (λ x. x ++ 70 ∷ 88 ∷ 1 ∷ c.len-count.result ∷ []) c.new-out.ensures in
    record {
      written = (λ i. head i ++ flat_map section_bytes (map section_of es)) ∙ (λ i. 70 ∷ 88 ∷ 1 ∷ count i ∷ flat_map section_bytes (map section_of es));
      bits = λ bits. bits;
    }

pub push_member-requires : goal.push_member-requires
push_member-requires c = (member_bounds c.args.snapshot.now c.loop-k.k (c.in-Some.member, c.in-Some.elements.now) c.in-Some.ensures.bounded (sym c.in-Some.ensures.pair)).1

pub loop-k-preserved : goal.loop-k-preserved
loop-k-preserved c =
    let es = entries c.args.snapshot.now in
    elim c.match-nth.branch [
      | in-Some+in_ok-push_member w ↦
          let step = one_member_at c.match-nth.out c.loop-k.out es c.loop-k.k (w.in-Some.member, w.in-Some.elements.now) (spelling_of c.args.snapshot.now) (sym w.in-Some.ensures.pair)
          (w.out-is ∙ w.in_ok-push_member.ensures.pushed) w.in_ok-push_member.ensures.bits c.loop-k.invariant.written in
          record { written = step.written; bits = λ rest. c.loop-k.invariant.bits (step.bits rest) }
      | in_default w ↦
          let none : slice_get es c.loop-k.k ≡ None = sym (rw w.in_default.is at c.nth.ensures.pair) in
          absurd (omega (arith, none_past es c.loop-k.k none, c.loop-k-test.true, c.len-count.ensures.len, len-entries c.args.snapshot.now))
    ]

pub returns-clause-spelling : goal.returns-clause-spelling
returns-clause-spelling c =
    let es = entries c.args.snapshot.now in
    all_members c.loop-k.out es c.loop-k.k (spelling_of c.args.snapshot.now) (omega (arith, c.loop-k-test.false, c.len-count.ensures.len, len-entries c.args.snapshot.now)) c.loop-k.invariant.written

pub returns-clause-spells : goal.returns-clause-spells
returns-clause-spells c =
    let s = c.args.snapshot.now in
    let es = entries s in
    let end : length es ≤ c.loop-k.k = omega (arith, c.loop-k-test.false, c.len-count.ensures.len, len-entries s) in
    let is : c.loop-k.out ≡ spelling_of s = all_members c.loop-k.out es c.loop-k.k (spelling_of s) end c.loop-k.invariant.written in
    let bits : members_have_64_bits es ≡ true = c.loop-k.invariant.bits (ap members_have_64_bits (drop_all es c.loop-k.k end)) in
    subst (λ bytes. Spells bytes s) (sym is) (spelled s (fits_to_be_spelled s c.len-count.ensures.bounded bits))
