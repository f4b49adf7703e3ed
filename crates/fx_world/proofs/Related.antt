-- What is kept of a world follows what happens to it.
use Rattle.std.proofs.lemmas.Bool.Decides.{nat_tests}
use Rattle.std.proofs.lemmas.List.{append-nil, length-set, get_or-set_same, get_or-set_other}
use Rattle.std.proofs.lemmas.List.Elements.{All-set}
use Rattle.std.proofs.Common.{arith, ◌≡◌, ◌<◌, ℕ, Bool, true, false, ◌==◌, List, [], ◌∷◌, ◌++◌, All, map, Option, Some, None, refl, sym, ap, ◌∙◌, inl, inr, slice_set, slice_index_or}
use Rattle.std.specs.Prelude.{if◌then◌else◌, not, ◌&&◌, nat_lt}
use Rattle.std.proofs.lemmas.Bool.{cases_eq}
use Rattle.fx_base.specs.declared.names.Proc.{Proc}
use Rattle.fx_ballot.specs.World.{put}
use Rattle.fx_check.specs.Rules.{procs_of}
use Rattle.fx_fleet.specs.Runs.{job_setup}
use Rattle.fx_fleet.specs.World.{World, up, does, loses, learns, receives_front, sent_to}
use Rattle.fx_link.specs.LinkTable as links
use Rattle.fx_link.specs.LinkTable.{LinkTable, IsTable, is_closed, link_of, closed_to, emptied, taken, rest_of}
use Rattle.fx_link.specs.declared.message.Message.{Message}
use Rattle.fx_link.proofs.LinkFacts.{closed_elsewhere, closed_here, closed_itself, closed_other, link_elsewhere, link_here}
use Rattle.fx_machine.specs.Messages.{wire_text}
use Rattle.fx_machine.specs.Nodes.{Act, first_node, has_ended, is_told, receives}
use Rattle.fx_machine.specs.Texts.{Text}
use Rattle.fx_node.specs.Standing.{Standing, IsNodeOf}
use Rattle.fx_node.specs.Stepping.{posted}
use Rattle.fx_script.specs.declared.job.Job.{Job}
use Rattle.fx_world.specs.declared.counts.Counts.{Counts}
use Rattle.fx_world.specs.Sends.{links_behind, sent_all}
use Rattle.fx_world.specs.Standings.{Standings, IsOneOf, IsPost, IsSound, IsWorldOf, comes, post_of}
use Rattle.fx_world.proofs.Fits.{AllFit}
use Rattle.fx_world.proofs.Lists.{split, map_append}
use Rattle.fx_world.proofs.Sendings.{added, all_added, all_sent_closed, messages_to, texts_to}

-- ---- what is sound stays so

-- another one at a place, and other links and counts
abbrev pub changed : Standings → (p : ℕ) → Option Standing → LinkTable → Counts → Standings
changed c p post links counts = record c { posts = slice_set c.posts p post; links = links; counts = counts }

pub still_sound : (c : Standings) (p : ℕ) (post : Option Standing) (table : LinkTable) (counts : Counts) → IsSound c → IsOneOf c.procs post → IsTable table
    → links.procs_of table ≡ links.procs_of c.links → IsSound (changed c p post table counts)
still_sound c p post table counts sound one is same = record {
  some = sound.some;
  few = sound.few;
  places = length-set c.posts p post ∙ sound.places;
  each = All-set (IsOneOf c.procs) c.posts p post one sound.each;
  table = is;
  linked = same ∙ sound.linked;
}

-- each place has one of the processes
pub one_of : (c : Standings) (p : ℕ) → IsSound c → p < c.procs → IsOneOf c.procs (post_of c p)
one_of c p sound within = sound.each p None (omega (arith, within, sound.places))

-- ---- another place

module _ (job : Job) (c : Standings) (w : World) where
  post_here : (p : ℕ) (post : Option Standing) → IsSound c → p < c.procs → slice_index_or (slice_set c.posts p post) p None ≡ post
  post_here p post sound within = get_or-set_same c.posts p post None (omega (arith, within, sound.places))

  post_there : (p q : ℕ) (post : Option Standing) → (q ≡ p → ⊥) → slice_index_or (slice_set c.posts p post) q None ≡ post_of c q
  post_there p q post apart = get_or-set_other c.posts p q post None apart

-- what stands at each place, once one place has another
pub posts_then : (job : Job) (c : Standings) (w x : World) (p : ℕ) (post : Option Standing) → IsSound c → IsWorldOf job c w → p < c.procs
    → IsPost job post (x.killed p) (x.node p) → ((q : ℕ) → (q ≡ p → ⊥) → (x.killed q ≡ w.killed q) × (x.node q ≡ w.node q))
    → (q : ℕ) → q < c.procs → IsPost job (slice_index_or (slice_set c.posts p post) q None) (x.killed q) (x.node q)
posts_then job c w x p post sound is p_in here others q q_in = elim (cases_eq q p) [
  | inl same ↦ rw (same, post_here job c w p post sound p_in) here
  | inr apart ↦ rw (post_there job c w p q post apart, (others q apart).0, (others q apart).1) (is.posts q q_in)
]

put_here : {X : Type 0} (f : ℕ → X) (p : ℕ) (x : X) → put f p x p ≡ x
put_here f p x = grind (arith, nat_tests)

put_there : {X : Type 0} (f : ℕ → X) (p q : ℕ) (x : X) → (q ≡ p → ⊥) → put f p x q ≡ f q
put_there f p q x apart = grind (arith, nat_tests)

-- ---- who is up

pub up_in : (job : Job) (c : Standings) (w : World) (p : ℕ) → IsWorldOf job c w → p < c.procs → up (job_setup job) w p ≡ (not (w.killed p) && not (has_ended (w.node p)))
up_in job c w p is p_in =
    let within : nat_lt p (procs_of job) ≡ true = grind (arith, nat_tests, is.procs, p_in) in
    rw within refl

up_same : (job : Job) (w x : World) (b : ℕ) → x.killed b ≡ w.killed b → has_ended (x.node b) ≡ has_ended (w.node b) → up (job_setup job) x b ≡ up (job_setup job) w b
up_same job w x b killed ended = rw (killed, ended) refl

-- ---- a loss

pub killed_then : (job : Job) (c : Standings) (w : World) (p : ℕ) (counts : Counts) → IsSound c → IsWorldOf job c w → p < c.procs
    → IsWorldOf job (changed c p None (closed_to c.links p) counts) (loses (job_setup job) p w)
killed_then job c w p counts sound is p_in = record {
  procs = is.procs;
  fuel = is.fuel;
  posts = posts_then job c w x p None sound is p_in (put_here w.killed p true) (λ q apart. (put_there w.killed p q true apart, put_there w.node p q (first_node (job_setup job) p) apart));
  comes = λ a b a_in b_in. elim (cases_eq b p) [
    | inl same ↦ rw (same, closed_here c.links sound.table a p (inside a a_in) (inside p p_in), down) refl
    | inr apart ↦
        rw (closed_elsewhere c.links sound.table a p (inside a a_in) (inside p p_in) a b apart, still b apart, elsewhere a b apart) (is.comes a b a_in b_in)
  ];
  closed = λ b b_in. elim (cases_eq b p) [
    | inl same ↦ rw (same, closed_itself c.links p (inside p p_in), down) refl
    | inr apart ↦ rw (closed_other c.links p b apart, still b apart) (is.closed b b_in)
  ];
}
  where
    x : World
    x = loses (job_setup job) p w

    inside : (a : ℕ) → a < c.procs → a < links.procs_of c.links
    inside a a_in = omega (arith, a_in, sound.linked)

    down : up (job_setup job) (loses (job_setup job) p w) p ≡ false
    down = grind (arith, nat_tests, put_here w.killed p true)

    still : (b : ℕ) → (b ≡ p → ⊥) → up (job_setup job) (loses (job_setup job) p w) b ≡ up (job_setup job) w b
    still b apart = up_same job w (loses (job_setup job) p w) b (put_there w.killed p b true apart) (ap has_ended (put_there w.node p b (first_node (job_setup job) p) apart))

    elsewhere : (a b : ℕ) → (b ≡ p → ⊥) → (loses (job_setup job) p w).link a b ≡ w.link a b
    elsewhere a b apart = grind (arith, nat_tests, apart)

-- ---- a notice

pub told_then : (job : Job) (c : Standings) (w : World) (p q : ℕ) (post : Standing) (counts : Counts) → IsSound c → IsWorldOf job c w → p < c.procs → q < c.procs
    → w.killed q ≡ false → IsNodeOf job post (is_told p (w.node q))
    → IsWorldOf job (changed c q (Some post) (emptied c.links p q) counts) (learns p q w)
told_then job c w p q post counts sound is p_in q_in living node = record {
  procs = is.procs;
  fuel = is.fuel;
  posts = posts_then job c w x q (Some post) sound is q_in (living, rw (put_here w.node q (is_told p (w.node q))) node) (λ r apart. (refl, put_there w.node q r (is_told p (w.node q)) apart));
  comes = λ a b a_in b_in. elim (split ((a == p) && (b == q))) [
    | inl here ↦
        let e : a ≡ p = grind (arith, nat_tests, here) in
        let f : b ≡ q = grind (arith, nat_tests, here) in
        rw (e, f, link_here c.links sound.table p q (inside p p_in) (inside q q_in) [], linked_here) (sym (none (up (job_setup job) (learns p q w) q) [] refl))
    | inr there ↦
        let apart : a ≡ p → b ≡ q → ⊥ = λ e f. grind (arith, nat_tests, there, e, f) in
        rw (link_elsewhere c.links sound.table p q (inside p p_in) (inside q q_in) [] a b apart, still b, linked_there a b there) (is.comes a b a_in b_in)
  ];
  closed = λ b b_in. rw (still b) (is.closed b b_in);
}
  where
    x : World
    x = learns p q w

    inside : (a : ℕ) → a < c.procs → a < links.procs_of c.links
    inside a a_in = omega (arith, a_in, sound.linked)

    none : (b : Bool) (texts : List Text) → texts ≡ [] → (if b then texts else []) ≡ []
    none true texts e = e
    none false texts e = refl

    linked_here : (learns p q w).link p q ≡ []
    linked_here = grind (arith, nat_tests)

    linked_there : (a b : ℕ) → ((a == p) && (b == q)) ≡ false → (learns p q w).link a b ≡ w.link a b
    linked_there a b there = rw there refl

    still : (b : ℕ) → up (job_setup job) (learns p q w) b ≡ up (job_setup job) w b
    still b = elim (cases_eq b q) [
      | inl same ↦ rw (same, put_here w.node q (is_told p (w.node q))) refl
      | inr apart ↦ rw (put_there w.node q b (is_told p (w.node q)) apart) refl
    ]

-- ---- a delivery

pub heard_then : (job : Job) (c : Standings) (w : World) (p q : ℕ) (t : Text) (rest : List Text) (post : Standing) (counts : Counts) → IsSound c → IsWorldOf job c w → p < c.procs → q < c.procs
    → w.killed q ≡ false → up (job_setup job) w q ≡ true → map wire_text (rest_of (link_of c.links p q)) ≡ rest → IsNodeOf job post (receives p t (w.node q))
    → IsWorldOf job (changed c q (Some post) (taken c.links p q) counts) (receives_front p q (t ∷ rest) w)
heard_then job c w p q t rest post counts sound is p_in q_in living on left node = record {
  procs = is.procs;
  fuel = is.fuel;
  posts = posts_then job c w x q (Some post) sound is q_in (living, rw (put_here w.node q (receives p t (w.node q))) node) (λ r apart. (refl, put_there w.node q r (receives p t (w.node q)) apart));
  comes = λ a b a_in b_in. elim (split ((a == p) && (b == q))) [
    | inl here ↦
        let e : a ≡ p = grind (arith, nat_tests, here) in
        let f : b ≡ q = grind (arith, nat_tests, here) in
        rw (e, f, link_here c.links sound.table p q (inside p p_in) (inside q q_in) (rest_of (link_of c.links p q)), linked_here, still q, on) left
    | inr there ↦
        let apart : a ≡ p → b ≡ q → ⊥ = λ e f. grind (arith, nat_tests, there, e, f) in
        rw (link_elsewhere c.links sound.table p q (inside p p_in) (inside q q_in) (rest_of (link_of c.links p q)) a b apart, still b, linked_there a b there) (is.comes a b a_in b_in)
  ];
  closed = λ b b_in. rw (still b) (is.closed b b_in);
}
  where
    x : World
    x = receives_front p q (t ∷ rest) w

    inside : (a : ℕ) → a < c.procs → a < links.procs_of c.links
    inside a a_in = omega (arith, a_in, sound.linked)

    linked_here : (receives_front p q (t ∷ rest) w).link p q ≡ rest
    linked_here = grind (arith, nat_tests)

    linked_there : (a b : ℕ) → ((a == p) && (b == q)) ≡ false → (receives_front p q (t ∷ rest) w).link a b ≡ w.link a b
    linked_there a b there = rw there refl

    still : (b : ℕ) → up (job_setup job) (receives_front p q (t ∷ rest) w) b ≡ up (job_setup job) w b
    still b = elim (cases_eq b q) [
      | inl same ↦ rw (same, put_here w.node q (receives p t (w.node q))) refl
      | inr apart ↦ rw (put_there w.node q b (receives p t (w.node q)) apart) refl
    ]

-- ---- a step

pub acted_then : (job : Job) (c : Standings) (w : World) (p : ℕ) (act : Act) (post : Standing) (counts : Counts) → IsSound c → IsWorldOf job c w → p < c.procs
    → up (job_setup job) w p ≡ true → w.killed p ≡ false → AllFit act.sends → IsTable (sent_all p (map posted act.sends) c.links) → All (λ (x : Proc × Message). x.0.0 < links.procs_of c.links) (map posted act.sends)
    → links.procs_of (sent_all p (map posted act.sends) c.links) ≡ links.procs_of c.links
    → IsNodeOf job post act.node
    → IsWorldOf job (changed c p (Some post) (links_behind p (has_ended act.node) (sent_all p (map posted act.sends) c.links)) counts) (does (job_setup job) p act w)
acted_then job c w p act post counts sound is p_in on living fit table receivers same node = record {
  procs = is.procs;
  fuel = is.fuel;
  posts = posts_then job c w x p (Some post) sound is p_in (living, rw (put_here w.node p act.node) node) (λ q apart. (refl, put_there w.node p q act.node apart));
  comes = λ a b a_in b_in. comes_then a b a_in b_in (has_ended act.node) refl;
  closed = λ b b_in. closed_then b b_in (has_ended act.node) refl;
}
  where
    s : Rattle.fx_machine.specs.Setup.Setup
    s = job_setup job

    x : World
    x = does (job_setup job) p act w

    all : LinkTable
    all = sent_all p (map posted act.sends) c.links

    inside : (a : ℕ) → a < c.procs → a < links.procs_of c.links
    inside a a_in = omega (arith, a_in, sound.linked)

    later : (a : ℕ) → a < c.procs → a < links.procs_of (sent_all p (map posted act.sends) c.links)
    later a a_in = omega (arith, a_in, sound.linked, same)

    still : (b : ℕ) → (b ≡ p → ⊥) → up (job_setup job) (does (job_setup job) p act w) b ≡ up (job_setup job) w b
    still b apart = rw (put_there w.node p b act.node apart) refl

    itself : up (job_setup job) (does (job_setup job) p act w) p ≡ not (has_ended act.node)
    itself = up_in_does (grind (arith, nat_tests, is.procs, p_in))
      where
        up_in_does : nat_lt p (procs_of job) ≡ true → up (job_setup job) (does (job_setup job) p act w) p ≡ not (has_ended act.node)
        up_in_does within = rw (within, living, put_here w.node p act.node) refl

    -- what is on a link to who was up, and on one to who wasn't
    to_up : (a b : ℕ) → a < c.procs → b < c.procs → up (job_setup job) w b ≡ true → map wire_text (link_of (sent_all p (map posted act.sends) c.links) a b) ≡ (does (job_setup job) p act w).link a b
    to_up a b a_in b_in is_up =
        let open_to : is_closed c.links b ≡ false = is.closed b b_in ∙ ap not is_up in
        let before : map wire_text (link_of c.links a b) ≡ w.link a b = is.comes a b a_in b_in ∙ rw is_up refl in
        ap (map wire_text) (all_added p (map posted act.sends) c.links sound.table (inside p p_in) receivers a b)
        ∙ rw (open_to, is_up) (by (a == p) before)
      where
        by : (from : Bool) → map wire_text (link_of c.links a b) ≡ w.link a b
            → map wire_text (link_of c.links a b ++ added from false (messages_to b (map posted act.sends))) ≡ (if from && true then w.link a b ++ sent_to b act.sends else w.link a b)
        by true e = map_append wire_text (link_of c.links a b) (messages_to b (map posted act.sends)) ∙ (λ i. e i ++ texts_to b act.sends fit i)
        by false e = ap (map wire_text) (append-nil (link_of c.links a b)) ∙ e

    to_down : (a b : ℕ) → a < c.procs → b < c.procs → up (job_setup job) w b ≡ false → map wire_text (link_of (sent_all p (map posted act.sends) c.links) a b) ≡ []
    to_down a b a_in b_in off =
        let closed_to_it : is_closed c.links b ≡ true = is.closed b b_in ∙ ap not off in
        let before : map wire_text (link_of c.links a b) ≡ [] = is.comes a b a_in b_in ∙ rw off refl in
        ap (map wire_text) (all_added p (map posted act.sends) c.links sound.table (inside p p_in) receivers a b)
        ∙ rw closed_to_it (by (a == p) before)
      where
        by : (from : Bool) → map wire_text (link_of c.links a b) ≡ [] → map wire_text (link_of c.links a b ++ added from true (messages_to b (map posted act.sends))) ≡ []
        by true e = ap (map wire_text) (append-nil (link_of c.links a b)) ∙ e
        by false e = ap (map wire_text) (append-nil (link_of c.links a b)) ∙ e

    before_closing : (a b : ℕ) → a < c.procs → b < c.procs → up (job_setup job) (does (job_setup job) p act w) b ≡ up (job_setup job) w b
        → map wire_text (link_of (sent_all p (map posted act.sends) c.links) a b) ≡ comes job (does (job_setup job) p act w) a b
    before_closing a b a_in b_in e = elim (split (up (job_setup job) w b)) [
      | inl is_up ↦ to_up a b a_in b_in is_up ∙ rw (e, is_up) refl
      | inr off ↦ to_down a b a_in b_in off ∙ rw (e, off) refl
    ]

    comes_then : (a b : ℕ) → a < c.procs → b < c.procs → (ended : Bool) → has_ended act.node ≡ ended
        → map wire_text (link_of (links_behind p ended (sent_all p (map posted act.sends) c.links)) a b) ≡ comes job (does (job_setup job) p act w) a b
    comes_then a b a_in b_in false e = elim (cases_eq b p) [
      | inl same_one ↦ rw same_one (before_closing a p a_in p_in (itself ∙ ap not e ∙ sym on))
      | inr apart ↦ before_closing a b a_in b_in (still b apart)
    ]
    comes_then a b a_in b_in true e = elim (cases_eq b p) [
      | inl same_one ↦ rw (same_one, closed_here (sent_all p (map posted act.sends) c.links) table a p (later a a_in) (later p p_in), itself, e) refl
      | inr apart ↦
          rw (closed_elsewhere (sent_all p (map posted act.sends) c.links) table a p (later a a_in) (later p p_in) a b apart) (before_closing a b a_in b_in (still b apart))
    ]

    closed_then : (b : ℕ) → b < c.procs → (ended : Bool) → has_ended act.node ≡ ended
        → is_closed (links_behind p ended (sent_all p (map posted act.sends) c.links)) b ≡ not (up (job_setup job) (does (job_setup job) p act w) b)
    closed_then b b_in false e = elim (cases_eq b p) [
      | inl same_one ↦ rw same_one (all_sent_closed p (map posted act.sends) c.links p ∙ is.closed p p_in ∙ rw (on, itself, e) refl)
      | inr apart ↦ all_sent_closed p (map posted act.sends) c.links b ∙ is.closed b b_in ∙ ap not (sym (still b apart))
    ]
    closed_then b b_in true e = elim (cases_eq b p) [
      | inl same_one ↦ rw (same_one, closed_itself (sent_all p (map posted act.sends) c.links) p (later p p_in), itself, e) refl
      | inr apart ↦
          closed_other (sent_all p (map posted act.sends) c.links) p b apart ∙ all_sent_closed p (map posted act.sends) c.links b ∙ is.closed b b_in ∙ ap not (sym (still b apart))
    ]
