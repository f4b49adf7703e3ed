-- Calls one after another.
use Rattle.std.proofs.Common.{◌≡◌, ◌≤◌, ◌+◌, ℕ, List, [], ◌++◌, Option, Result, Ok, Err, refl, sym, ap, subst, ◌∙◌, arith, append_assoc, add-one, inl, inr}
use Rattle.std.proofs.lemmas.List.{append-nil}
use Rattle.fx_fleet.specs.Rounds.{in_rising_order}
use Rattle.fx_fleet.specs.World.{World}
use Rattle.fx_io.specs.Faults.{Rose}
use Rattle.fx_io.specs.States.{SinkState}
use Rattle.fx_io.specs.Told.{Gains}
use Rattle.fx_io.specs.Writing.{Puts}
use Rattle.fx_io.specs.declared.whole.PutEnd.{PutEnd}
use Rattle.fx_io.specs.declared.whole.PutEnd.TheVariants as put_end
use Rattle.fx_io.proofs.Joined.{gains_more}
use Rattle.fx_item.specs.declared.item.Item.{Item}
use Rattle.fx_node.specs.Asking.{AsksCarried}
use Rattle.fx_script.specs.declared.job.Job.{Job}
use Rattle.fx_world.specs.declared.counts.Counts.{Counts}
use Rattle.fx_world.specs.declared.end.RunEnd.{RunEnd}
use Rattle.fx_world.specs.declared.end.RunEnd.TheVariants as end
use Rattle.fx_world.specs.declared.shown.Shown.{Shown}
use Rattle.fx_world.specs.Counting.{counted}
use Rattle.fx_world.specs.Goes.{Goes, Leaves, Told, Tells, TellsFront, cut_by, told}
use Rattle.fx_world.specs.Standings.{Standings, IsWorldOf}
use Rattle.fx_world.specs.Texts.{shown_text}
use Rattle.fx_world.proofs.Grows.{Grows}
use Rattle.fx_world.proofs.Lists.{shown_append, counted_append}

-- ---- what is told

pub gains_none : (a : Option (List ℕ)) → Gains a a []
gains_none Option.None = tt
gains_none (Option.Some l) = sym (append-nil l)

rose_later : (f g h : ℕ) → f ≤ g → Rose g h → Rose f h
rose_later f g h le rose = elim rose as (λ _. Rose f h) [ inl lt ↦ inl (omega (arith, lt, le)) | inr e ↦ inr e ]

-- what the sink has got and the counts, by hand
abbrev pub at : SinkState → Counts → Told
at sink counts = record { written = sink.written; counts = counts }

pub tells_more : (shown : Shown) (start : Told) (i j : SinkState) (k k' : Counts) (items more : List Item) → Tells shown start (at i k) items → Puts i j (shown_text shown more) (Ok tt)
    → k' ≡ counted k more → Tells shown start (at j k') (items ++ more)
tells_more shown start i j k k' items more tells puts counts = record {
  text = subst (λ (text : List ℕ). Gains start.written j.written text) (sym (shown_append shown items more))
      (gains_more start.written i.written j.written (shown_text shown items) (shown_text shown more) tells.text puts.content);
  counts = counts ∙ ap (λ c. counted c more) tells.counts ∙ sym (counted_append start.counts items more);
}

-- all that was told is a front of the text of these items and more
pub front_of : (shown : Shown) (start now : Told) (items more : List Item) → Tells shown start now items → TellsFront shown start now (items ++ more)
front_of shown start now items more tells = (shown_text shown items, shown_text shown more, shown_append shown items more, tells.text)

-- a front of a text is one of a longer text
pub longer_front : (shown : Shown) (start now : Told) (items more : List Item) → TellsFront shown start now items → TellsFront shown start now (items ++ more)
longer_front shown start now items more front = (
  front.0,
  front.1 ++ shown_text shown more,
  shown_append shown items more ∙ ap (λ (l : List ℕ). l ++ shown_text shown more) front.2 ∙ append_assoc front.0 front.1 (shown_text shown more),
  front.3,
)

-- a front of what is told more
pub cut_more : (shown : Shown) (start : Told) (i j : SinkState) (k k' : Counts) (items more : List Item) (e : PutEnd) → Tells shown start (at i k) items → Puts i j (shown_text shown more) (Err e)
    → TellsFront shown start (at j k') (items ++ more)
cut_more shown start i j k k' items more e tells puts = (
  shown_text shown items ++ puts.content.0,
  puts.content.1,
  shown_append shown items more ∙ ap (λ (l : List ℕ). shown_text shown items ++ l) puts.content.2 ∙ sym (append_assoc (shown_text shown items) puts.content.0 puts.content.1),
  gains_more start.written i.written j.written (shown_text shown items) puts.content.0 tells.text puts.content.3,
)

grown_front : (shown : Shown) (start now : Told) (w x : World) → Grows w x → TellsFront shown start now w.items → TellsFront shown start now x.items
grown_front shown start now w x grows front = subst (λ items. TellsFront shown start now items) (sym grows.items) (longer_front shown start now w.items grows.more front)

-- ---- single calls

-- nothing happened
pub stays : (A : Type 0) (x : A) (a b : Standings) (shown : Shown) (i : SinkState) (f : Job → World → World) → b ≡ a
    → ((job : Job) (w : World) → AsksCarried job → IsWorldOf job a w → f job w ≡ w) → Goes A a b shown i i f (Ok x)
stays A x a b shown i f same nothing = record {
  leads = λ job w start asks is tells.
      let e : f job w ≡ w = nothing job w asks is in (
        subst (λ c. IsWorldOf job c (f job w)) (sym same) (subst (λ y. IsWorldOf job a y) (sym e) is),
        subst (λ c. Tells shown start (told c i) (f job w).items) (sym same) (subst (λ (y : World). Tells shown start (told a i) y.items) (sym e) tells),
      );
  count_never_falls = omega arith;
  failed_only_if_count_rose = λ e. absurd cc;
  never_unfinished = λ e. absurd cc;
}

-- nothing happened, and what is kept of the world is as good
pub passes_over : (A : Type 0) (x : A) (a b : Standings) (shown : Shown) (i : SinkState) (f : Job → World → World) → b.counts ≡ a.counts
    → ((job : Job) (w : World) → AsksCarried job → IsWorldOf job a w → (f job w ≡ w) × IsWorldOf job b w) → Goes A a b shown i i f (Ok x)
passes_over A x a b shown i f counts nothing = record {
  leads = λ job w start asks is tells.
      let now = nothing job w asks is in (
        subst (λ y. IsWorldOf job b y) (sym now.0) now.1,
        subst (λ (y : World). Tells shown start (told b i) y.items) (sym now.0) (subst (λ k. Tells shown start (at i k) w.items) (sym counts) tells),
      );
  count_never_falls = omega arith;
  failed_only_if_count_rose = λ e. absurd cc;
  never_unfinished = λ e. absurd cc;
}

-- it did what was to happen, and told the items of it
pub does_and_tells : (A : Type 0) (x : A) (a b : Standings) (shown : Shown) (i j : SinkState) (f : Job → World → World) (more : List Item) → Puts i j (shown_text shown more) (Ok tt) → b.counts ≡ counted a.counts more
    → ((job : Job) (w : World) → AsksCarried job → IsWorldOf job a w → IsWorldOf job b (f job w) × ((f job w).items ≡ w.items ++ more)) → Goes A a b shown i j f (Ok x)
does_and_tells A x a b shown i j f more puts counts did = record {
  leads = λ job w start asks is tells.
      let now = did job w asks is in
      (now.0, subst (λ items. Tells shown start (told b j) items) (sym now.1) (tells_more shown start i j a.counts b.counts w.items more tells puts counts));
  count_never_falls = puts.count_never_falls;
  failed_only_if_count_rose = λ e. absurd cc;
  never_unfinished = λ e. absurd cc;
}

-- items that are told in what happens, with more behind them
pub record Begins (w x : World) (items : List Item) : Type 0 where
  pub more : List Item
  pub begin : x.items ≡ (w.items ++ items) ++ more

cut_failed : (A : Type 0) (e : PutEnd) (r : Result A RunEnd) → r ≡ Err (cut_by e) → r ≡ Err end.WriteFault → e ≡ put_end.Failed
cut_failed A put_end.Failed r so is = refl
cut_failed A put_end.NoMemory r so is = absurd cc

cut_not_unfinished : (A : Type 0) (e : PutEnd) (r : Result A RunEnd) → r ≡ Err (cut_by e) → r ≡ Err end.Unfinished → ⊥
cut_not_unfinished A put_end.Failed r so is = absurd cc
cut_not_unfinished A put_end.NoMemory r so is = absurd cc

-- the telling of the items was cut short
pub is_cut : (A : Type 0) (a b : Standings) (shown : Shown) (i j : SinkState) (f : Job → World → World) (items : List Item) (e : PutEnd) → Puts i j (shown_text shown items) (Err e)
    → ((job : Job) (w : World) → AsksCarried job → IsWorldOf job a w → Begins w (f job w) items) → Goes A a b shown i j f (Err (cut_by e))
is_cut A a b shown i j f items e puts begins = record {
  leads = λ job w start asks is tells.
      let begun = begins job w asks is in
      subst (λ told_items. TellsFront shown start (told b j) told_items) (sym begun.begin)
      (longer_front shown start (told b j) (w.items ++ items) begun.more (cut_more shown start i j a.counts b.counts w.items items e tells puts));
  count_never_falls = puts.count_never_falls;
  failed_only_if_count_rose = λ is. puts.failed_only_if_count_rose (ap Err (cut_failed A e (Err (cut_by e)) refl is));
  never_unfinished = λ is. cut_not_unfinished A e (Err (cut_by e)) refl is;
}

-- memory ran out behind the telling of the items
pub gives_up : (A : Type 0) (a b : Standings) (shown : Shown) (i j : SinkState) (f : Job → World → World) (items : List Item) → Puts i j (shown_text shown items) (Ok tt)
    → ((job : Job) (w : World) → AsksCarried job → IsWorldOf job a w → Begins w (f job w) items) → Goes A a b shown i j f (Err end.NoMemory)
gives_up A a b shown i j f items puts begins = record {
  leads = λ job w start asks is tells.
      let begun = begins job w asks is in
      let all = tells_more shown start i j a.counts (counted a.counts items) w.items items tells puts refl in
      subst (λ told_items. TellsFront shown start (told b j) told_items) (sym begun.begin)
      (longer_front shown start (told b j) (w.items ++ items) begun.more
      (shown_text shown (w.items ++ items), [], sym (append-nil (shown_text shown (w.items ++ items))), all.text));
  count_never_falls = puts.count_never_falls;
  failed_only_if_count_rose = λ e. absurd cc;
  never_unfinished = λ e. absurd cc;
}

-- memory ran out before anything was told
pub gives_up_at_once : (A : Type 0) (a b : Standings) (shown : Shown) (i : SinkState) (f : Job → World → World) → ((job : Job) (w : World) → Grows w (f job w))
    → Goes A a b shown i i f (Err end.NoMemory)
gives_up_at_once A a b shown i f adds = record {
  leads = λ job w start asks is tells.
      let grows = adds job w in
      subst (λ items. TellsFront shown start (told b i) items) (sym grows.items) (shown_text shown w.items, shown_text shown grows.more, shown_append shown w.items grows.more, tells.text);
  count_never_falls = omega arith;
  failed_only_if_count_rose = λ e. absurd cc;
  never_unfinished = λ e. absurd cc;
}

-- ---- one call after another

pub goes_on : (A B : Type 0) (x : A) (a b c : Standings) (shown : Shown) (i j k : SinkState) (f g : Job → World → World) (r : Result B RunEnd) → Goes A a b shown i j f (Ok x) → Goes B b c shown j k g r
    → Goes B a c shown i k (λ job w. g job (f job w)) r
goes_on A B x a b c shown i j k f g r p q = record {
  leads = λ job w start asks is tells.
      let mid = p.leads job w start asks is tells in
      q.leads job (f job w) start asks mid.0 mid.1;
  count_never_falls = omega (arith, p.count_never_falls, q.count_never_falls);
  failed_only_if_count_rose = λ e. rose_later i.faults j.faults k.faults p.count_never_falls (q.failed_only_if_count_rose e);
  never_unfinished = q.never_unfinished;
}

which_of : (B : Type 0) (e d : RunEnd) (r : Result B RunEnd) → r ≡ Err e → r ≡ Err d → e ≡ d
which_of B e d r so is = cc

-- it was cut short, and more was to come
pub stops : (A B : Type 0) (e : RunEnd) (a b : Standings) (shown : Shown) (i j : SinkState) (f g : Job → World → World) → Goes A a b shown i j f (Err e)
    → ((job : Job) (w : World) → AsksCarried job → IsWorldOf job a w → Grows (f job w) (g job w)) → Goes B a b shown i j g (Err e)
stops A B e a b shown i j f g p adds = record {
  leads = λ job w start asks is tells. grown_front shown start (told b j) (f job w) (g job w) (adds job w asks is) (p.leads job w start asks is tells);
  count_never_falls = p.count_never_falls;
  failed_only_if_count_rose = λ is. p.failed_only_if_count_rose (ap Err (which_of B e end.WriteFault (Err e) refl is));
  never_unfinished = λ is. p.never_unfinished (ap Err (which_of B e end.Unfinished (Err e) refl is));
}

-- the same happens, said in another way
pub same_way : (A : Type 0) (r : Result A RunEnd) (a b : Standings) (shown : Shown) (i j : SinkState) (f g : Job → World → World) → Goes A a b shown i j f r
    → ((job : Job) (w : World) → AsksCarried job → IsWorldOf job a w → f job w ≡ g job w) → Goes A a b shown i j g r
same_way A r a b shown i j f g p same = record {
  leads = λ job w start asks is tells. subst (λ z. Leaves A job b shown start (told b j) z r) (same job w asks is) (p.leads job w start asks is tells);
  count_never_falls = p.count_never_falls;
  failed_only_if_count_rose = p.failed_only_if_count_rose;
  never_unfinished = p.never_unfinished;
}

-- an answer that says no more than that it went well
pub any_answer : (A B : Type 0) (x : A) (y : B) (a b : Standings) (shown : Shown) (i j : SinkState) (f : Job → World → World) → Goes A a b shown i j f (Ok x) → Goes B a b shown i j f (Ok y)
any_answer A B x y a b shown i j f p = record {
  leads = p.leads;
  count_never_falls = p.count_never_falls;
  failed_only_if_count_rose = λ e. absurd cc;
  never_unfinished = λ e. absurd cc;
}

-- ---- loops

-- one more turn
pub turn_on : (a b c : Standings) (shown : Shown) (i j k : SinkState) (turn : Job → ℕ → World → World) (n : ℕ) → Goes (Unit {0}) a b shown i j (λ job w. in_rising_order (turn job) n w) (Ok tt)
    → Goes (Unit {0}) b c shown j k (λ job w. turn job n w) (Ok tt) → Goes (Unit {0}) a c shown i k (λ job w. in_rising_order (turn job) (n + 1) w) (Ok tt)
turn_on a b c shown i j k turn n p q =
    same_way (Unit {0}) (Ok tt) a c shown i k (λ job w. turn job n (in_rising_order (turn job) n w)) (λ job w. in_rising_order (turn job) (n + 1) w)
    (goes_on (Unit {0}) (Unit {0}) tt a b c shown i j k (λ job w. in_rising_order (turn job) n w) (λ job w. turn job n w) (Ok tt) p q)
    (λ job w asks is. ap (λ m. in_rising_order (turn job) m w) (sym (add-one n)))

-- what is reached so far, from where the rest leads to the whole
pub record Reached (job : Job) (now : Standings) (shown : Shown) (start told_now : Told) (rest : World → World) (whole : World) : Type 0 where
  pub world : World
  pub is : IsWorldOf job now world
  pub tells : Tells shown start told_now world.items
  pub leads : rest world ≡ whole

pub record IsOnWay (old now : Standings) (shown : Shown) (sink sink' : SinkState) (f rest : Job → World → World) : Type 0 where
  pub way : (job : Job) (w : World) (start : Told) → AsksCarried job → IsWorldOf job old w → Tells shown start (told old sink) w.items → Reached job now shown start (told now sink') (rest job) (f job w)
  pub faults : sink.faults ≤ sink'.faults

pub begins_way : (a : Standings) (shown : Shown) (i : SinkState) (f g : Job → World → World) → ((job : Job) (w : World) → AsksCarried job → IsWorldOf job a w → g job w ≡ f job w) → IsOnWay a a shown i i f g
begins_way a shown i f g same = record {
  way = λ job w start asks is tells. record { world = w; is = is; tells = tells; leads = same job w asks is };
  faults = omega arith;
}

pub goes_way : (A : Type 0) (x : A) (a b c : Standings) (shown : Shown) (i j k : SinkState) (f rest later g : Job → World → World) → IsOnWay a b shown i j f rest → Goes A b c shown j k g (Ok x)
    → ((job : Job) (w : World) → AsksCarried job → IsWorldOf job b w → later job (g job w) ≡ rest job w) → IsOnWay a c shown i k f later
goes_way A x a b c shown i j k f rest later g on p same = record {
  way = λ job w start asks is tells.
      let so = on.way job w start asks is tells in
      let then = p.leads job so.world start asks so.is so.tells in
      record { world = g job so.world; is = then.0; tells = then.1; leads = same job so.world asks so.is ∙ so.leads };
  faults = omega (arith, on.faults, p.count_never_falls);
}

pub ends_way : (A : Type 0) (x : A) (a b : Standings) (shown : Shown) (i j : SinkState) (f rest : Job → World → World) → IsOnWay a b shown i j f rest
    → ((job : Job) (w : World) → AsksCarried job → IsWorldOf job b w → rest job w ≡ w) → Goes A a b shown i j f (Ok x)
ends_way A x a b shown i j f rest on none = record {
  leads = λ job w start asks is tells.
      let so = on.way job w start asks is tells in
      let e : so.world ≡ f job w = sym (none job so.world asks so.is) ∙ so.leads in
      (subst (λ y. IsWorldOf job b y) e so.is, subst (λ (y : World). Tells shown start (told b j) y.items) e so.tells);
  count_never_falls = on.faults;
  failed_only_if_count_rose = λ e. absurd cc;
  never_unfinished = λ e. absurd cc;
}

pub cuts_way : (A B : Type 0) (e : RunEnd) (a b c : Standings) (shown : Shown) (i j k : SinkState) (f rest g : Job → World → World) → IsOnWay a b shown i j f rest → Goes A b c shown j k g (Err e)
    → ((job : Job) (w : World) → AsksCarried job → IsWorldOf job b w → Grows (g job w) (rest job w)) → Goes B a c shown i k f (Err e)
cuts_way A B e a b c shown i j k f rest g on p adds =
    let stopped = stops A B e b c shown j k g rest p adds in
    record {
      leads = λ job w start asks is tells.
          let so = on.way job w start asks is tells in
          subst (λ (y : World). TellsFront shown start (told c k) y.items) so.leads (stopped.leads job so.world start asks so.is so.tells);
      count_never_falls = omega (arith, on.faults, p.count_never_falls);
      failed_only_if_count_rose = λ is. rose_later i.faults j.faults k.faults on.faults (stopped.failed_only_if_count_rose is);
      never_unfinished = stopped.never_unfinished;
    }
