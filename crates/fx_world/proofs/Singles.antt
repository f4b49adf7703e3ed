-- What single calls do is what happens to the world.
use Rattle.std.proofs.lemmas.Bool.Decides.{nat_tests}
use Rattle.std.proofs.lemmas.List.{append-nil, get_or_default, length-set}
use Rattle.std.proofs.Common.{arith, ◌≡◌, ◌<◌, ℕ, Bool, true, false, List, [], ◌∷◌, ◌++◌, map, Option, Some, None, refl, sym, ap, subst, ◌∙◌, slice_index_or, inl, inr}
use Rattle.std.specs.Prelude.{if◌then◌else◌, ◌&&◌, ◌==◌}
use Rattle.fx_base.specs.declared.names.Proc.{Proc}
use Rattle.fx_fleet.specs.Runs.{job_setup}
use Rattle.fx_fleet.specs.World.{World, up, loses, may_learn, learns, receives_front}
use Rattle.fx_item.specs.declared.item.Item.TheVariants as item
use Rattle.fx_link.specs.LinkTable as links
use Rattle.fx_link.specs.LinkTable.{LinkTable, IsTable, link_of, closed_to, emptied, taken, first_of, rest_of}
use Rattle.fx_link.specs.declared.message.Message.{Message}
use Rattle.fx_link.proofs.LinkFacts.{link_elsewhere, link_here, with_link_table}
use Rattle.fx_link.proofs.Tables.{still_table}
use Rattle.fx_machine.specs.Messages.{wire_text}
use Rattle.fx_machine.specs.Nodes.{Node, is_told, receives}
use Rattle.fx_machine.specs.Texts.{Text}
use Rattle.fx_node.specs.Standing.{Standing, IsNodeOf}
use Rattle.fx_script.specs.declared.job.Job.{Job}
use Rattle.fx_world.specs.declared.counts.Counts.{Counts}
use Rattle.fx_world.specs.Goes.{delivering, killing, noticing}
use Rattle.fx_world.specs.Standings.{Standings, IsOneOf, IsPost, IsSound, IsWorldOf, Passes, post_of}
use Rattle.fx_world.proofs.Fits.{same_message}
use Rattle.fx_world.proofs.Going.{Begins}
use Rattle.fx_world.proofs.Lists.{split}
use Rattle.fx_world.proofs.Related.{changed, heard_then, killed_then, still_sound, told_then}

-- ---- links that stay a table

module _ (c : Standings) (sound : IsSound c) where
  inside : (p : ℕ) → p < c.procs → p < links.procs_of c.links
  inside p p_in = omega (arith, p_in, sound.linked)

  pub closed_sound : (k p : ℕ) (counts : Counts) → IsSound (changed c k None (closed_to c.links p) counts)
  closed_sound k p counts = still_sound c k None (closed_to c.links p) counts sound tt (still_table c.links.rows c.links.closed p sound.table) (length-set c.links.closed p true)

  pub emptied_sound : (k p q : ℕ) (post : Option Standing) (counts : Counts) → p < c.procs → q < c.procs → IsOneOf c.procs post → IsSound (changed c k post (emptied c.links p q) counts)
  emptied_sound k p q post counts p_in q_in one = still_sound c k post (emptied c.links p q) counts sound one (with_link_table c.links sound.table p q (inside p p_in) (inside q q_in) []) refl

  pub taken_sound : (k p q : ℕ) (post : Option Standing) (counts : Counts) → p < c.procs → q < c.procs → IsOneOf c.procs post → IsSound (changed c k post (taken c.links p q) counts)
  taken_sound k p q post counts p_in q_in one = still_sound c k post (taken c.links p q) counts sound one (with_link_table c.links sound.table p q (inside p p_in) (inside q q_in) (rest_of (link_of c.links p q))) refl

-- ---- a kill

kill_is : (job : Job) (w : World) (p : ℕ) → up (job_setup job) w p ≡ true → killing p job w ≡ loses (job_setup job) p w
kill_is job w p on = rw on refl

pub no_kill : (job : Job) (w : World) (p : ℕ) → up (job_setup job) w p ≡ false → killing p job w ≡ w
no_kill job w p off = rw off refl

pub kill_begins : (job : Job) (w : World) (p : Proc) → up (job_setup job) w p.0 ≡ true → Begins w (killing p.0 job w) (item.Kill p ∷ [])
kill_begins job w p on = rw on (record { more = []; begin = sym (append-nil (w.items ++ item.Kill p ∷ [])) })

pub kill_did : (job : Job) (c : Standings) (w : World) (p : Proc) (k : ℕ) (post : Option Standing) (table : LinkTable) (counts : Counts) → IsSound c → IsWorldOf job c w → p.0 < c.procs
    → up (job_setup job) w p.0 ≡ true → k ≡ p.0 → post ≡ None → table ≡ closed_to c.links p.0
    → IsWorldOf job (changed c k post table counts) (killing p.0 job w) × ((killing p.0 job w).items ≡ w.items ++ item.Kill p ∷ [])
kill_did job c w p k post table counts sound is p_in on at none closed =
    rw (at, none, closed) (subst (λ x. IsWorldOf job (changed c p.0 None (closed_to c.links p.0) counts) x × (x.items ≡ w.items ++ item.Kill p ∷ [])) (sym (kill_is job w p.0 on))
    (killed_then job c w p.0 counts sound is p_in, refl))

-- ---- a notice

notice_is : (job : Job) (w : World) (p q : ℕ) → may_learn (job_setup job) p q w ≡ true → noticing p q job w ≡ learns p q w
notice_is job w p q may = rw may refl

pub no_notice : (job : Job) (w : World) (p q : ℕ) → may_learn (job_setup job) p q w ≡ false → noticing p q job w ≡ w
no_notice job w p q not_now = rw not_now refl

pub notice_begins : (job : Job) (w : World) (p q : Proc) → may_learn (job_setup job) p.0 q.0 w ≡ true → Begins w (noticing p.0 q.0 job w) (item.Told p q ∷ [])
notice_begins job w p q may = rw may (record { more = []; begin = sym (append-nil (w.items ++ item.Told p q ∷ [])) })

pub lives : (job : Job) (w : World) (q : ℕ) → up (job_setup job) w q ≡ true → w.killed q ≡ false
lives job w q on = grind (arith, nat_tests, on)

learner_up : (job : Job) (w : World) (p q : ℕ) → may_learn (job_setup job) p q w ≡ true → up (job_setup job) w q ≡ true
learner_up job w p q may = grind (arith, nat_tests, may)

-- a process that lives stands at its place
stands : (job : Job) (o : Option Standing) (n : Node) → IsPost job o false n → (c : Standing) × (o ≡ Some c) × IsNodeOf job c n
stands job None n is = absurd cc
stands job (Some c) n is = (c, refl, is.1)

passed : (o : Option Standing) (c : Standing) (how : Standing → Standing → Type 0) → Passes (Some c) o how → (c' : Standing) × (o ≡ Some c') × how c c'
passed None c how p = absurd p
passed (Some c') c how p = (c', refl, p)

-- what a living process has become
pub became : (job : Job) (c : Standings) (w : World) (q : ℕ) (post : Option Standing) (how : Standing → Standing → Type 0) → IsWorldOf job c w → q < c.procs → w.killed q ≡ false
    → Passes (post_of c q) post how → (old : Standing) × (new : Standing) × (post ≡ Some new) × IsNodeOf job old (w.node q) × how old new
became job c w q post how is q_in living passes =
    let here = subst (λ b. IsPost job (post_of c q) b (w.node q)) living (is.posts q q_in) in
    let old = stands job (post_of c q) (w.node q) here in
    let new = passed post old.0 how (subst (λ o. Passes o post how) old.1 passes) in
    (old.0, new.0, new.1, old.2, new.2)

pub notice_did : (job : Job) (c : Standings) (w : World) (p q : Proc) (k : ℕ) (post : Option Standing) (table : LinkTable) (counts : Counts) → IsSound c → IsWorldOf job c w → p.0 < c.procs → q.0 < c.procs
    → may_learn (job_setup job) p.0 q.0 w ≡ true → k ≡ q.0 → Passes (post_of c q.0) post (λ d d'. (j : Job) (n : Node) → IsNodeOf j d n → IsNodeOf j d' (is_told p.0 n)) → table ≡ emptied c.links p.0 q.0
    → IsWorldOf job (changed c k post table counts) (noticing p.0 q.0 job w) × ((noticing p.0 q.0 job w).items ≡ w.items ++ item.Told p q ∷ [])
notice_did job c w p q k post table counts sound is p_in q_in may at passes emptied_now =
    let living = lives job w q.0 (learner_up job w p.0 q.0 may) in
    let now = became job c w q.0 post (λ d d'. (j : Job) (n : Node) → IsNodeOf j d n → IsNodeOf j d' (is_told p.0 n)) is q_in living passes in
    rw (at, now.2, emptied_now) (subst (λ x. IsWorldOf job (changed c q.0 (Some now.1) (emptied c.links p.0 q.0) counts) x × (x.items ≡ w.items ++ item.Told p q ∷ [])) (sym (notice_is job w p.0 q.0 may))
    (told_then job c w p.0 q.0 now.1 counts sound is p_in q_in living (now.4 job (w.node q.0) now.3), refl))

-- ---- a delivery

-- what is under way, by what is on the link
nothing_comes : (job : Job) (c : Standings) (w : World) (p q : ℕ) → IsWorldOf job c w → p < c.procs → q < c.procs → link_of c.links p q ≡ [] → delivering p q job w ≡ w
nothing_comes job c w p q is p_in q_in none = by (up (job_setup job) w q) (w.link p q) (sym (is.comes p q p_in q_in) ∙ ap (map wire_text) none)
  where
    front : (ts : List Text) → ts ≡ [] → receives_front p q ts w ≡ w
    front [] e = refl
    front (t ∷ ts) e = absurd cc

    by : (b : Bool) (ts : List Text) → (if b then ts else []) ≡ [] → (if b then receives_front p q ts w else w) ≡ w
    by true ts e = front ts e
    by false ts e = refl

first_none : (ms : List Message) → None ≡ first_of ms → ms ≡ []
first_none [] e = refl
first_none (m ∷ ms) e = absurd cc

first_some : (ms : List Message) (m : Message) → Some m ≡ first_of ms → ms ≡ m ∷ rest_of ms
first_some [] m e = absurd cc
first_some (x ∷ ms) m e = ap (λ y. y ∷ ms) (same x m e)
  where
    same : (x m : Message) → Some m ≡ Some x → x ≡ m
    same x m e = cc

pub no_delivery : (job : Job) (c : Standings) (w : World) (p q : ℕ) → IsWorldOf job c w → p < c.procs → q < c.procs → None ≡ first_of (link_of c.links p q) → delivering p q job w ≡ w
no_delivery job c w p q is p_in q_in none = nothing_comes job c w p q is p_in q_in (first_none (link_of c.links p q) none)

-- where a message is on the link its receiver is up, and it is the first
pub record Front (job : Job) (c : Standings) (w : World) (p q : ℕ) (m : Message) : Type 0 where
  pub on : up (job_setup job) w q ≡ true
  pub texts : w.link p q ≡ wire_text m ∷ map wire_text (rest_of (link_of c.links p q))
  pub same : delivering p q job w ≡ receives_front p q (wire_text m ∷ map wire_text (rest_of (link_of c.links p q))) w

pub front_is : (job : Job) (c : Standings) (w : World) (p q : ℕ) (m : Message) → IsWorldOf job c w → p < c.procs → q < c.procs → Some m ≡ first_of (link_of c.links p q) → Front job c w p q m
front_is job c w p q m is p_in q_in some =
    let on_it : (if up (job_setup job) w q then w.link p q else []) ≡ wire_text m ∷ map wire_text (rest_of (link_of c.links p q)) =
    sym (is.comes p q p_in q_in) ∙ ap (map wire_text) (first_some (link_of c.links p q) m some) in
    let parts = by (up (job_setup job) w q) (w.link p q) (wire_text m) (map wire_text (rest_of (link_of c.links p q))) on_it in
    record { on = parts.0; texts = parts.1; same = rw (parts.0, parts.1) refl }
  where
    by : (b : Bool) (ts : List Text) (t : Text) (rest : List Text) → (if b then ts else []) ≡ t ∷ rest → (b ≡ true) × (ts ≡ t ∷ rest)
    by true ts t rest e = (refl, e)
    by false ts t rest e = absurd cc

pub delivery_begins : (job : Job) (c : Standings) (w : World) (p q : Proc) (m : Message) → IsWorldOf job c w → p.0 < c.procs → q.0 < c.procs → Some m ≡ first_of (link_of c.links p.0 q.0)
    → Begins w (delivering p.0 q.0 job w) (item.Deliver p q m ∷ [])
delivery_begins job c w p q m is p_in q_in some =
    let front = front_is job c w p.0 q.0 m is p_in q_in some in
    subst (λ x. Begins w x (item.Deliver p q m ∷ [])) (sym front.same)
    (record { more = []; begin = ap (λ t. w.items ++ item.Deliver p q t ∷ []) (same_message m) ∙ sym (append-nil (w.items ++ item.Deliver p q m ∷ [])) })

pub delivery_did : (job : Job) (c : Standings) (w : World) (p q : Proc) (m : Message) (k : ℕ) (post : Option Standing) (table : LinkTable) (counts : Counts) → IsSound c → IsWorldOf job c w → p.0 < c.procs → q.0 < c.procs
    → Some m ≡ first_of (link_of c.links p.0 q.0) → k ≡ q.0 → Passes (post_of c q.0) post (λ d d'. (j : Job) (n : Node) → IsNodeOf j d n → IsNodeOf j d' (receives p.0 (wire_text m) n)) → table ≡ taken c.links p.0 q.0
    → IsWorldOf job (changed c k post table counts) (delivering p.0 q.0 job w) × ((delivering p.0 q.0 job w).items ≡ w.items ++ item.Deliver p q m ∷ [])
delivery_did job c w p q m k post table counts sound is p_in q_in some at passes taken_now =
    let front = front_is job c w p.0 q.0 m is p_in q_in some in
    let living = lives job w q.0 front.on in
    let now = became job c w q.0 post (λ d d'. (j : Job) (n : Node) → IsNodeOf j d n → IsNodeOf j d' (receives p.0 (wire_text m) n)) is q_in living passes in
    rw (at, now.2, taken_now) (subst (λ x. IsWorldOf job (changed c q.0 (Some now.1) (taken c.links p.0 q.0) counts) x × (x.items ≡ w.items ++ item.Deliver p q m ∷ [])) (sym front.same) (
      heard_then job c w p.0 q.0 (wire_text m) (map wire_text (rest_of (link_of c.links p.0 q.0))) now.1 counts sound is p_in q_in living front.on refl (now.4 job (w.node q.0) now.3),
      ap (λ t. w.items ++ item.Deliver p q t ∷ []) (same_message m),
    ))

-- an empty link stays as it is where nothing can be taken
pub nothing_taken : (job : Job) (c : Standings) (w : World) (p q : ℕ) → IsSound c → IsWorldOf job c w → p < c.procs → q < c.procs → None ≡ first_of (link_of c.links p q)
    → IsWorldOf job (record c { links = taken c.links p q }) w
nothing_taken job c w p q sound is p_in q_in none = record {
  procs = is.procs;
  fuel = is.fuel;
  posts = is.posts;
  comes = λ a b a_in b_in. elim (split ((a == p) && (b == q))) [
    | inl here ↦
        let e : a ≡ p = grind (arith, nat_tests, here) in
        let f : b ≡ q = grind (arith, nat_tests, here) in
        let empty = first_none (link_of c.links p q) none in
        rw (e, f, link_here c.links sound.table p q (inside c sound p p_in) (inside c sound q q_in) (rest_of (link_of c.links p q))) (rw empty (sym (ap (map wire_text) empty) ∙ is.comes p q p_in q_in))
    | inr there ↦
        let apart : a ≡ p → b ≡ q → ⊥ = λ e f. grind (arith, nat_tests, there, e, f) in
        rw (link_elsewhere c.links sound.table p q (inside c sound p p_in) (inside c sound q q_in) (rest_of (link_of c.links p q)) a b apart) (is.comes a b a_in b_in)
  ];
  closed = is.closed;
}

pub taken_table : (c : Standings) → IsSound c → (p q : ℕ) → p < c.procs → q < c.procs → IsSound (record c { links = taken c.links p q })
taken_table c sound p q p_in q_in = record {
  some = sound.some;
  few = sound.few;
  places = sound.places;
  each = sound.each;
  table = with_link_table c.links sound.table p q (inside c sound p p_in) (inside c sound q q_in) (rest_of (link_of c.links p q));
  linked = sound.linked;
}

-- what stands at a place, whatever is read where none is
pub post_is : (c : Standings) → IsSound c → (k q : ℕ) → k ≡ q → q < c.procs → (o : Option Standing) → o ≡ slice_index_or c.posts k o → o ≡ post_of c q
post_is c sound k q at q_in o is = is ∙ rw at (get_or_default c.posts q o None (omega (arith, q_in, sound.places)))

pub closed_table : (c : Standings) → IsSound c → (p : ℕ) → IsSound (record c { links = closed_to c.links p })
closed_table c sound p = record {
  some = sound.some;
  few = sound.few;
  places = sound.places;
  each = sound.each;
  table = still_table c.links.rows c.links.closed p sound.table;
  linked = length-set c.links.closed p true ∙ sound.linked;
}

pub same_links_sound : (c : Standings) (k : ℕ) (post : Option Standing) → IsSound c → IsOneOf c.procs post → IsSound (changed c k post c.links c.counts)
same_links_sound c k post sound one = still_sound c k post c.links c.counts sound one sound.table refl
