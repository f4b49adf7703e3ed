-- A step of a process, as it runs, is the step of its node.
use Rattle.std.proofs.Common.{arith, ◌≡◌, ◌<◌, ℕ, Bool, true, false, List, [], ◌∷◌, ◌++◌, All, map, Option, Some, None, refl, sym, ap, subst, ◌∙◌, ◌⊎◌, inl, inr}
use Rattle.std.specs.Prelude.{not, ◌||◌, if◌then◌else◌}
use Rattle.std.proofs.lemmas.List.{append-nil, get_or-set_same}
use Rattle.fx_base.specs.declared.names.Proc.{Proc}
use Rattle.fx_fleet.specs.Rounds.{is_quiet}
use Rattle.fx_fleet.specs.Runs.{job_setup}
use Rattle.fx_fleet.specs.World.{World, up, does, send_item, steps}
use Rattle.fx_item.specs.declared.item.Item.{Item}
use Rattle.fx_link.specs.LinkTable as links
use Rattle.fx_link.specs.LinkTable.{LinkTable, IsTable}
use Rattle.fx_link.specs.declared.message.Message.{Message}
use Rattle.fx_machine.specs.Nodes.{Node, Act, has_ended}
use Rattle.fx_machine.specs.Steps.{next}
use Rattle.fx_machine.specs.Texts.{Text}
use Rattle.fx_node.specs.Asking.{AsksCarried}
use Rattle.fx_node.specs.declared.node.Moved.{Moved}
use Rattle.fx_node.specs.declared.node.Moved.TheVariants as moved
use Rattle.fx_node.specs.Standing.{Standing, IsNodeOf}
use Rattle.fx_node.specs.Stepping.{Steps, posted, resting}
use Rattle.fx_script.specs.declared.job.Job.{Job}
use Rattle.fx_world.specs.declared.counts.Counts.{Counts}
use Rattle.fx_world.specs.Goes.{stepping}
use Rattle.fx_world.specs.Sends.{links_behind, sent_all, sent_item}
use Rattle.fx_world.specs.Standings.{Standings, IsPost, IsSound, IsWorldOf, Passes, post_of}
use Rattle.fx_world.proofs.Fits.{ActFits, AllFit, sends_fit}
use Rattle.fx_world.proofs.Going.{Begins}
use Rattle.fx_world.proofs.Related.{acted_then, changed, posts_then}
use Rattle.fx_world.proofs.Sendings.{all_sent_processes, all_sent_table}
use Rattle.fx_world.proofs.Singles.{became, lives}

-- how a process steps that begins with nothing sent or written
abbrev pub Stepped : Moved → (sends : List (Proc × Message)) → (items : List Item) → Standing → Standing → Type 0
Stepped said sends items c c' = (job : Job) (n : Node) → AsksCarried job → IsNodeOf job c n → Steps job n (next (job_setup job) n) said c' [] sends [] items

-- ---- an action was taken

pub record Taken (job : Job) (w : World) (p : ℕ) (post : Option Standing) (sends : List (Proc × Message)) (items : List Item) : Type 0 where
  pub act : Act
  pub new : Standing
  pub enabled : next (job_setup job) (w.node p) ≡ Some act
  pub here : post ≡ Some new
  pub node : IsNodeOf job new act.node
  pub sent : sends ≡ map posted act.sends
  pub written : items ≡ act.items
  pub fit : AllFit act.sends

never_rests : (n : Node) → moved.Acted ≡ resting n → ⊥
never_rests n e = by (has_ended n) e
  where
    by : (b : Bool) → moved.Acted ≡ (if b then moved.Ended else moved.Quiet) → ⊥
    by true e = absurd cc
    by false e = absurd cc

takes : (job : Job) (w : World) (p : ℕ) (post : Option Standing) (new : Standing) (sends : List (Proc × Message)) (items : List Item) (o : Option Act) → next (job_setup job) (w.node p) ≡ o → ActFits o → post ≡ Some new
    → Steps job (w.node p) o moved.Acted new [] sends [] items → Taken job w p post sends items
takes job w p post new sends items None e fit at steps = absurd (never_rests (w.node p) steps.says)
takes job w p post new sends items (Some act) e fit at steps =
    record { act = act; new = new; enabled = e; here = at; node = steps.node; sent = steps.sends; written = steps.items; fit = fit }

pub taken : (job : Job) (c : Standings) (w : World) (p : ℕ) (post : Option Standing) (sends : List (Proc × Message)) (items : List Item) → IsWorldOf job c w → p < c.procs → AsksCarried job
    → up (job_setup job) w p ≡ true → Passes (post_of c p) post (Stepped moved.Acted sends items) → Taken job w p post sends items
taken job c w p post sends items is p_in asks on passes =
    let now = became job c w p post (Stepped moved.Acted sends items) is p_in (lives job w p on) passes in
    takes job w p post now.1 sends items (next (job_setup job) (w.node p)) refl (sends_fit (job_setup job) job now.0 (w.node p) now.3) now.2 (now.4 job (w.node p) asks now.3)

module _ (job : Job) (w : World) (p : Proc) (post : Option Standing) (sends : List (Proc × Message)) (items : List Item) (t : Taken job w p.0 post sends items) (on : up (job_setup job) w p.0 ≡ true) where
  step_is : stepping p.0 job w ≡ does (job_setup job) p.0 t.act w
  step_is = rw (on, t.enabled) refl

  pub not_quiet : true ≡ not (is_quiet (job_setup job) p.0 w)
  not_quiet = rw (on, t.enabled) refl

  same_items : (xs : List (ℕ × Text)) → map (send_item p.0) xs ≡ map (sent_item p) (map posted xs)
  same_items [] = refl
  same_items (x ∷ xs) = ap (λ l. send_item p.0 x ∷ l) (same_items xs)

  pub items_are : (stepping p.0 job w).items ≡ w.items ++ (items ++ map (sent_item p) sends)
  items_are = ap (λ (x : World). x.items) step_is ∙ ap (λ l. w.items ++ (t.act.items ++ l)) (same_items t.act.sends) ∙ rw (t.sent, t.written) refl

  pub step_begins : Begins w (stepping p.0 job w) (items ++ map (sent_item p) sends)
  step_begins = record { more = []; begin = items_are ∙ sym (append-nil (w.items ++ (items ++ map (sent_item p) sends))) }

  pub step_did : (c : Standings) (counts : Counts) → IsSound c → IsWorldOf job c w → p.0 < c.procs → All (λ (x : Proc × Message). x.0.0 < c.procs) sends
      → IsWorldOf job (changed c p.0 post (links_behind p.0 (has_ended t.act.node) (sent_all p.0 sends c.links)) counts) (stepping p.0 job w)
  step_did c counts sound is p_in receivers =
      let inside : p.0 < links.procs_of c.links = omega (arith, p_in, sound.linked) in
      let among = subst (λ l. All (λ (x : Proc × Message). x.0.0 < links.procs_of c.links) l) t.sent (subst (λ n. All (λ (x : Proc × Message). x.0.0 < n) sends) (sym sound.linked) receivers) in
      let at = acted_then job c w p.0 t.act t.new counts sound is p_in on (lives job w p.0 on) t.fit (all_sent_table p.0 (map posted t.act.sends) c.links sound.table inside among) among
      (all_sent_processes p.0 (map posted t.act.sends) c.links) t.node in
      subst (λ x. IsWorldOf job (changed c p.0 post (links_behind p.0 (has_ended t.act.node) (sent_all p.0 sends c.links)) counts) x) (sym step_is)
      (rw (t.here, t.sent) at)

-- ---- no action was enabled

pub record Waits (job : Job) (w : World) (p : ℕ) (post : Option Standing) : Type 0 where
  pub new : Standing
  pub none : next (job_setup job) (w.node p) ≡ None
  pub here : post ≡ Some new
  pub node : IsNodeOf job new (w.node p)

waits_if : (job : Job) (w : World) (p : ℕ) (said : Moved) (post : Option Standing) (new : Standing) (sends : List (Proc × Message)) (items : List Item) (o : Option Act) → next (job_setup job) (w.node p) ≡ o → post ≡ Some new
    → (said ≡ moved.Acted → ⊥) → Steps job (w.node p) o said new [] sends [] items → Waits job w p post
waits_if job w p said post new sends items None e at other steps = record { new = new; none = e; here = at; node = steps.node }
waits_if job w p said post new sends items (Some act) e at other steps = absurd (other steps.says)

pub waits : (job : Job) (c : Standings) (w : World) (p : ℕ) (said : Moved) (post : Option Standing) (sends : List (Proc × Message)) (items : List Item) → IsWorldOf job c w → p < c.procs → AsksCarried job
    → up (job_setup job) w p ≡ true → (said ≡ moved.Acted → ⊥) → Passes (post_of c p) post (Stepped said sends items) → Waits job w p post
waits job c w p said post sends items is p_in asks on other passes =
    let now = became job c w p post (Stepped said sends items) is p_in (lives job w p on) passes in
    waits_if job w p said post now.1 sends items (next (job_setup job) (w.node p)) refl now.2 other (now.4 job (w.node p) asks now.3)

module _ (job : Job) (w : World) (p : ℕ) (post : Option Standing) (q : Waits job w p post) (on : up (job_setup job) w p ≡ true) where
  pub no_step : stepping p job w ≡ w
  no_step = rw (on, q.none) refl

  pub is_quiet_now : false ≡ not (is_quiet (job_setup job) p w)
  is_quiet_now = rw (on, q.none) refl

  pub waits_on : (c : Standings) (k : ℕ) → IsSound c → IsWorldOf job c w → p < c.procs → k ≡ p → IsWorldOf job (changed c k post c.links c.counts) w
  waits_on c k sound is p_in at = rw (at, q.here) (record {
    procs = is.procs;
    fuel = is.fuel;
    posts = posts_then job c w w p (Some q.new) sound is p_in (lives job w p on, q.node) (λ r apart. (refl, refl));
    comes = is.comes;
    closed = is.closed;
  })

-- a process that isn't up takes no step
pub off : (job : Job) (w : World) (p : ℕ) → up (job_setup job) w p ≡ false → (stepping p job w ≡ w) × (false ≡ not (is_quiet (job_setup job) p w))
off job w p down = (rw down refl, rw down refl)

-- who stands at the place after the step
pub new_post : (job : Job) (c : Standings) (k p : ℕ) (post : Option Standing) (new : Standing) (n : Node) → IsSound c → p < c.procs → k ≡ p → post ≡ Some new → IsNodeOf job new n
    → IsPost job (post_of (changed c k post c.links c.counts) p) false n
new_post job c k p post new n sound p_in at here node =
    rw (at, get_or-set_same c.posts p post None (omega (arith, p_in, sound.places)), here) (refl, node)

-- all that a step leaves
pub all_did : (job : Job) (c after : Standings) (w : World) (p : Proc) (k : ℕ) (post : Option Standing) (sends : List (Proc × Message)) (items : List Item) → IsSound c → IsWorldOf job c w → p.0 < c.procs → k ≡ p.0
    → (t : Taken job w p.0 post sends items) → up (job_setup job) w p.0 ≡ true → All (λ (x : Proc × Message). x.0.0 < c.procs) sends
    → ((killed : Bool) (n : Node) → IsPost job (post_of (changed c k post c.links c.counts) p.0) killed n
    → after ≡ record (changed c k post c.links c.counts) { links = links_behind p.0 (killed || has_ended n) (sent_all p.0 sends c.links); counts = after.counts })
    → IsWorldOf job after (stepping p.0 job w) × ((stepping p.0 job w).items ≡ w.items ++ (items ++ map (sent_item p) sends))
all_did job c after w p k post sends items sound is p_in at t on receivers carried =
    let e = carried false t.act.node (new_post job c k p.0 post t.new t.act.node sound p_in at t.here t.node) in
    let did = step_did job w p post sends items t on c after.counts sound is p_in receivers in
    (subst (λ s. IsWorldOf job s (stepping p.0 job w)) (sym (e ∙ rw at refl)) did, items_are job w p post sends items t on)

pub rests_now : (said : Moved) → (said ≡ moved.Quiet) ⊎ (said ≡ moved.Ended) → said ≡ moved.Acted → ⊥
rests_now said either is = elim either as (λ _. ⊥) [ inl quiet ↦ absurd cc | inr ended ↦ absurd cc ]
