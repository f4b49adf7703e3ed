-- What the end of a call says of it.
use Rattle.std.proofs.Common.{◌≡◌, ℕ, ◌<◌, ◌≤◌, inl, inr, Bool, true, false, nat_lt, if◌then◌else◌, List, ◌++◌, length, Option, Some, None, is_some, Result, Ok, Err, refl, sym, ap, subst, ◌∙◌, arith, length-append}
use Rattle.std.proofs.lemmas.List.{append-nil}
use Rattle.fx_base.specs.declared.spot.Spot.{Spot}
use Rattle.fx_io.specs.States.{SourceState, SinkState}
use Rattle.fx_io.specs.Told.{Loses, IsAtEnd, Gains}
use Rattle.fx_script.specs.declared.job.Job.{Job}
use Rattle.fx_script.specs.Canonical.{canonical}
use Rattle.fx_script.specs.Reading.{Refusal, reading, job_in}
use Rattle.fx_script.specs.Spelling.{IsWritable}
use Rattle.fx_script.proofs.CanonAlone.{canonical_alone}
use Rattle.fx_script.proofs.Spelled.{is_read, job_found}
use Rattle.fx_item.specs.declared.item.Item.{Item}
use Rattle.fx_check.specs.Acceptance.{IsAccepted, Refused, refusal_of}
use Rattle.fx_check.proofs.Accepting.{accepted_if_none, none_if_accepted}
use Rattle.fx_cli.specs.declared.mode.Mode.{Mode}
use Rattle.fx_cli.specs.declared.mode.Mode.TheVariants as mode
use Rattle.fx_cli.specs.declared.status.Refusal.{Refusal as Reason}
use Rattle.fx_cli.specs.declared.status.Refusal.TheVariants.{NotBuilt, Text, Static, TooBig}
use Rattle.fx_cli.specs.declared.status.Status.{Status}
use Rattle.fx_cli.specs.declared.status.Status.TheVariants.{Done, BadWords, BadJob, ReadFault, WriteFault, NoMemory, Unfinished}
use Rattle.fx_cli.specs.Built.{first_unbuilt}
use Rattle.fx_cli.specs.Dues.{longest_job, mode_of, Input, WrongWords, TooLong, Whole, IsInput, Due, input_in, input_of, due_to, due_to_reading, due_to_job, due_to_accepted, due_to_world, is_left_unfinished}
use Rattle.fx_cli.specs.Ends.{Answered, Settles, Ends, Takes, IsWholeRun, IsRun, IsWired, IsCheck, DoesWhatIsAsked, IsUnbuilt, IsGiven, IsUnlessCut, IsDoneUnlessCut}
use Rattle.fx_fleet.specs.Runs.{wire_of, journal_of}
use Rattle.fx_world.specs.declared.shown.Shown.{Shown}
use Rattle.fx_world.specs.declared.shown.Shown.TheVariants as shown
use Rattle.fx_world.specs.Texts.{shown_text, text_of}
use Rattle.fx_cli.proofs.Legality.{AreLawful}
use Rattle.fx_cli.proofs.Texts.{journal_text, wire_text}

-- what came in, and what is due to it, written whole or in part
pub ends_of : (words : List (List ℕ)) (source source' : SourceState) (sink sink' : SinkState) (input : Input) (s : Status) →
    IsInput words source.left source'.left input → Settles (due_to input) sink sink' s → Ends words source source' sink sink' s
ends_of words source source' sink sink' input Done is p = (input, is, p.0, p.1.content)
ends_of words source source' sink sink' input BadWords is p = (input, is, p.0, p.1.content)
ends_of words source source' sink sink' input (BadJob refusal spot) is p = (input, is, p.0, p.1.content)
ends_of words source source' sink sink' input ReadFault is p = absurd p
ends_of words source source' sink sink' input WriteFault is p = (input, is, p.content)
ends_of words source source' sink sink' input NoMemory is p = inl (input, is, p.content)
ends_of words source source' sink sink' input Unfinished is p = (input, is, p.0, p.1.content)

-- a job that is read and refused for nothing is taken
takes : (source source' : SourceState) (text : List ℕ) (job : Job) → job_in text ≡ Ok job → refusal_of job ≡ None →
    length text ≤ longest_job → Loses source.left source'.left text → IsAtEnd source'.left → Takes source source' job
takes source source' text job is fine short read end = record {
  text = text;
  read = read;
  at_end = end;
  short = short;
  spelled = job_found text (reading text) job refl is;
  accepted = accepted_if_none job fine;
}

-- ---- runs

-- a call is done, and the first holds, or it ends unfinished, and the second does, unless a fault or want of memory cut it short
abbrev IsDoneOrUnfinished : (done unfinished : Type 0) → Status → Type 0
IsDoneOrUnfinished done unfinished Done = done
IsDoneOrUnfinished done unfinished BadWords = ⊥
IsDoneOrUnfinished done unfinished (BadJob refusal spot) = ⊥
IsDoneOrUnfinished done unfinished ReadFault = Unit {0}
IsDoneOrUnfinished done unfinished WriteFault = Unit {0}
IsDoneOrUnfinished done unfinished NoMemory = Unit {0}
IsDoneOrUnfinished done unfinished Unfinished = unfinished

-- a run whose tail wasn't enough
record IsUnfinishedRun (job : Job) (items : List Item) (sink sink' : SinkState) : Type 0 where
  writable : IsWritable job
  accepted : IsAccepted job
  built : first_unbuilt job ≡ None
  unfinished : is_left_unfinished job ≡ true

-- how a run ends, by whether it is left unfinished
abbrev end_by : Bool → Status
end_by b = if b then Unfinished else Done

abbrev RunEnds : Job → List Item → SinkState → SinkState → Status → Type 0
RunEnds job items sink sink' s = IsDoneOrUnfinished (IsWholeRun job items sink sink') (IsUnfinishedRun job items sink sink') s

-- a call that ends unfinished has taken a job, and its words ask for a run, whose tail wasn't enough
abbrev LeavesUnfinished : Option Mode → SourceState → SourceState → SinkState → SinkState → Type 0
LeavesUnfinished None source source' sink sink' = ⊥
LeavesUnfinished (Some mode.Run) source source' sink sink' = (job : Job) × Takes source source' job × IsUnfinishedRun job (journal_of job) sink sink'
LeavesUnfinished (Some mode.Wire) source source' sink sink' = (job : Job) × Takes source source' job × IsUnfinishedRun job (wire_of job) sink sink'
LeavesUnfinished (Some mode.Check) source source' sink sink' = ⊥

-- what the words asked for, by the status
abbrev EndsAs : Option Mode → SourceState → SourceState → SinkState → SinkState → Status → Type 0
EndsAs asked source source' sink sink' Done = DoesWhatIsAsked asked source source' sink sink'
EndsAs asked source source' sink sink' BadWords = Unit {0}
EndsAs asked source source' sink sink' (BadJob refusal spot) = Unit {0}
EndsAs asked source source' sink sink' ReadFault = Unit {0}
EndsAs asked source source' sink sink' WriteFault = Unit {0}
EndsAs asked source source' sink sink' NoMemory = Unit {0}
EndsAs asked source source' sink sink' Unfinished = LeavesUnfinished asked source source' sink sink'

gains_same : (a b : Option (List ℕ)) (text other : List ℕ) → text ≡ other → Gains a b text → Gains a b other
gains_same a b text other same gains = subst (λ (t : List ℕ). Gains a b t) same gains

-- ---- what is done, and what is left unfinished

-- with the laws of journals
module _ (law : AreLawful) where
  -- no run is left so
  none_unfinished : (job : Job) (items : List Item) (sink sink' : SinkState) → IsUnfinishedRun job items sink sink' → ⊥
  none_unfinished job items sink sink' run = apart (sym run.unfinished ∙ law.over job run.writable run.accepted run.built)
    where
      apart : true ≡ false → ⊥
      apart e = cc

  -- a run whose text was written ends so
  run_ends : (job : Job) (items : List Item) (sink sink' : SinkState) (b : Bool) → IsWritable job → IsAccepted job → first_unbuilt job ≡ None → is_left_unfinished job ≡ b →
      Gains sink.written sink'.written (text_of items) → RunEnds job items sink sink' (end_by b)
  run_ends job items sink sink' true writable accepted built over gained = record {
    writable = writable;
    accepted = accepted;
    built = built;
    unfinished = over;
  }
  run_ends job items sink sink' false writable accepted built over gained = record {
    built = built;
    legal = law.legal job writable accepted built;
    losses = law.losses job writable accepted built;
    over = over;
    ended = law.ended job writable accepted built;
    gained = gained;
  }

  -- a refusal says nothing of it
  ends_refused : (asked : Option Mode) (source source' : SourceState) (sink sink' : SinkState) (s : Status) (refusal : Reason) (spot : Spot) →
      s ≡ BadJob refusal spot → EndsAs asked source source' sink sink' s
  ends_refused asked source source' sink sink' s refusal spot e = subst (EndsAs asked source source' sink sink') (sym e) tt

  run_taken : (source source' : SourceState) (sink sink' : SinkState) (job : Job) (b : Bool) → Takes source source' job → RunEnds job (journal_of job) sink sink' (end_by b) →
      EndsAs (Some mode.Run) source source' sink sink' (end_by b)
  run_taken source source' sink sink' job true taken run = (job, taken, run)
  run_taken source source' sink sink' job false taken run = (job, taken, run)

  wire_taken : (source source' : SourceState) (sink sink' : SinkState) (job : Job) (b : Bool) → Takes source source' job → RunEnds job (wire_of job) sink sink' (end_by b) →
      EndsAs (Some mode.Wire) source source' sink sink' (end_by b)
  wire_taken source source' sink sink' job true taken run = (job, taken, run)
  wire_taken source source' sink sink' job false taken run = (job, taken, run)

  run_done : (source source' : SourceState) (sink sink' : SinkState) (s : Status) (job : Job) (o : Option Spot) → Takes source source' job → first_unbuilt job ≡ o →
      s ≡ (due_to_world shown.Journal job o).status → Gains sink.written sink'.written (due_to_world shown.Journal job o).output →
      EndsAs (Some mode.Run) source source' sink sink' s
  run_done source source' sink sink' s job None taken built ends gained =
      subst (EndsAs (Some mode.Run) source source' sink sink') (sym ends)
      (run_taken source source' sink sink' job (is_left_unfinished job) taken
      (run_ends job (journal_of job) sink sink' (is_left_unfinished job) taken.spelled.writable taken.accepted built refl (gains_same _ _ _ _ (journal_text job) gained)))
  run_done source source' sink sink' s job (Some spot) taken built ends gained = ends_refused (Some mode.Run) source source' sink sink' s NotBuilt spot ends

  wire_done : (source source' : SourceState) (sink sink' : SinkState) (s : Status) (job : Job) (o : Option Spot) → Takes source source' job → first_unbuilt job ≡ o →
      s ≡ (due_to_world shown.Wire job o).status → Gains sink.written sink'.written (due_to_world shown.Wire job o).output →
      EndsAs (Some mode.Wire) source source' sink sink' s
  wire_done source source' sink sink' s job None taken built ends gained =
      subst (EndsAs (Some mode.Wire) source source' sink sink') (sym ends)
      (wire_taken source source' sink sink' job (is_left_unfinished job) taken
      (run_ends job (wire_of job) sink sink' (is_left_unfinished job) taken.spelled.writable taken.accepted built refl (gains_same _ _ _ _ (wire_text job) gained)))
  wire_done source source' sink sink' s job (Some spot) taken built ends gained = ends_refused (Some mode.Wire) source source' sink sink' s NotBuilt spot ends

  check_done : (source source' : SourceState) (sink sink' : SinkState) (s : Status) (job : Job) → Takes source source' job → s ≡ Done →
      Gains sink.written sink'.written (canonical job) → EndsAs (Some mode.Check) source source' sink sink' s
  check_done source source' sink sink' s job taken ends gained =
      subst (EndsAs (Some mode.Check) source source' sink sink') (sym ends)
      (job, taken, record { alone = canonical_alone job record { text = taken.text; told = job; spelled = taken.spelled; same = refl }; gained = gained })

  accepted_done : (source source' : SourceState) (sink sink' : SinkState) (s : Status) (asked : Mode) (job : Job) → Takes source source' job →
      s ≡ (due_to_accepted asked job).status → Gains sink.written sink'.written (due_to_accepted asked job).output →
      EndsAs (Some asked) source source' sink sink' s
  accepted_done source source' sink sink' s mode.Run job taken ends gained = run_done source source' sink sink' s job (first_unbuilt job) taken refl ends gained
  accepted_done source source' sink sink' s mode.Wire job taken ends gained = wire_done source source' sink sink' s job (first_unbuilt job) taken refl ends gained
  accepted_done source source' sink sink' s mode.Check job taken ends gained = check_done source source' sink sink' s job taken ends gained

  job_done : (source source' : SourceState) (sink sink' : SinkState) (s : Status) (asked : Mode) (text : List ℕ) (job : Job) (o : Option Refused) →
      job_in text ≡ Ok job → refusal_of job ≡ o → length text ≤ longest_job → Loses source.left source'.left text → IsAtEnd source'.left →
      s ≡ (due_to_job asked job o).status → Gains sink.written sink'.written (due_to_job asked job o).output →
      EndsAs (Some asked) source source' sink sink' s
  job_done source source' sink sink' s asked text job None is fine short read end ends gained =
      accepted_done source source' sink sink' s asked job (takes source source' text job is fine short read end) ends gained
  job_done source source' sink sink' s asked text job (Some refused) is fine short read end ends gained =
      ends_refused (Some asked) source source' sink sink' s (Static refused.fault) refused.spot ends

  text_done : (source source' : SourceState) (sink sink' : SinkState) (s : Status) (asked : Mode) (text : List ℕ) (r : Result Job Refusal) →
      job_in text ≡ r → length text ≤ longest_job → Loses source.left source'.left text → IsAtEnd source'.left →
      s ≡ (due_to_reading asked r).status → Gains sink.written sink'.written (due_to_reading asked r).output →
      EndsAs (Some asked) source source' sink sink' s
  text_done source source' sink sink' s asked text (Ok job) is short read end ends gained =
      job_done source source' sink sink' s asked text job (refusal_of job) is refl short read end ends gained
  text_done source source' sink sink' s asked text (Err r) is short read end ends gained = ends_refused (Some asked) source source' sink sink' s (Text r.fault) r.spot ends

  input_done : (words : List (List ℕ)) (source source' : SourceState) (sink sink' : SinkState) (s : Status) (input : Input) →
      IsInput words source.left source'.left input → s ≡ (due_to input).status → Gains sink.written sink'.written (due_to input).output →
      EndsAs (mode_of words) source source' sink sink' s
  input_done words source source' sink sink' s WrongWords is ends gained = subst (EndsAs (mode_of words) source source' sink sink') (sym ends) tt
  input_done words source source' sink sink' s TooLong is ends gained = ends_refused (mode_of words) source source' sink sink' s TooBig (record { line = 1; column = 1 }) ends
  input_done words source source' sink sink' s (Whole asked text) is ends gained =
      subst (λ (o : Option Mode). EndsAs o source source' sink sink' s) (sym is.0)
      (text_done source source' sink sink' s asked text (job_in text) refl is.1 is.2 is.3 ends gained)

  -- a call that is done has done what its words ask for
  pub is_done : (words : List (List ℕ)) (source source' : SourceState) (sink sink' : SinkState) (s : Status) →
      Ends words source source' sink sink' s → s ≡ Done → DoesWhatIsAsked (mode_of words) source source' sink sink'
  is_done words source source' sink sink' Done e is = input_done words source source' sink sink' Done e.0 e.1 e.2 e.3
  is_done words source source' sink sink' BadWords e is = absurd cc
  is_done words source source' sink sink' (BadJob refusal spot) e is = absurd cc
  is_done words source source' sink sink' ReadFault e is = absurd cc
  is_done words source source' sink sink' WriteFault e is = absurd cc
  is_done words source source' sink sink' NoMemory e is = absurd cc
  is_done words source source' sink sink' Unfinished e is = absurd cc

  -- a call that ends unfinished was asked for a run, whose tail wasn't enough
  is_unfinished : (words : List (List ℕ)) (source source' : SourceState) (sink sink' : SinkState) (s : Status) →
      Ends words source source' sink sink' s → s ≡ Unfinished → LeavesUnfinished (mode_of words) source source' sink sink'
  is_unfinished words source source' sink sink' Done e is = absurd cc
  is_unfinished words source source' sink sink' BadWords e is = absurd cc
  is_unfinished words source source' sink sink' (BadJob refusal spot) e is = absurd cc
  is_unfinished words source source' sink sink' ReadFault e is = absurd cc
  is_unfinished words source source' sink sink' WriteFault e is = absurd cc
  is_unfinished words source source' sink sink' NoMemory e is = absurd cc
  is_unfinished words source source' sink sink' Unfinished e is = input_done words source source' sink sink' Unfinished e.0 e.1 e.2 e.3

  -- so no call does
  none_left : (asked : Option Mode) (source source' : SourceState) (sink sink' : SinkState) → LeavesUnfinished asked source source' sink sink' → ⊥
  none_left None source source' sink sink' left = left
  none_left (Some mode.Run) source source' sink sink' left = none_unfinished left.0 (journal_of left.0) sink sink' left.2
  none_left (Some mode.Wire) source source' sink sink' left = none_unfinished left.0 (wire_of left.0) sink sink' left.2
  none_left (Some mode.Check) source source' sink sink' left = left

  pub never_unfinished : (words : List (List ℕ)) (source source' : SourceState) (sink sink' : SinkState) (s : Status) →
      Ends words source source' sink sink' s → s ≡ Unfinished → ⊥
  never_unfinished words source source' sink sink' s e is = none_left (mode_of words) source source' sink sink' (is_unfinished words source source' sink sink' s e is)

-- a job that is refused since a line of it isn't built yet
never_refused : (b : Bool) (refusal : Reason) (spot : Spot) → BadJob refusal spot ≡ end_by b → ⊥
never_refused true refusal spot e = cc
never_refused false refusal spot e = cc

same_spot : (spot first : Spot) → BadJob NotBuilt spot ≡ BadJob NotBuilt first → first ≡ spot
same_spot spot first e = cc

world_unbuilt : (shown : Shown) (job : Job) (o : Option Spot) (spot : Spot) → first_unbuilt job ≡ o → BadJob NotBuilt spot ≡ (due_to_world shown job o).status →
    first_unbuilt job ≡ Some spot
world_unbuilt shown job None spot is e = absurd (never_refused (is_left_unfinished job) NotBuilt spot e)
world_unbuilt shown job (Some first) spot is e = is ∙ ap (λ (s : Spot). Some s) (same_spot spot first e)

accepted_unbuilt : (words : List (List ℕ)) (source source' : SourceState) (asked : Mode) (job : Job) (spot : Spot) → mode_of words ≡ Some asked →
    Takes source source' job → BadJob NotBuilt spot ≡ (due_to_accepted asked job).status → IsUnbuilt words source source' spot
accepted_unbuilt words source source' mode.Run job spot named taken e =
    record { job = job; asked = inl named; taken = taken; first = world_unbuilt shown.Journal job (first_unbuilt job) spot refl e }
accepted_unbuilt words source source' mode.Wire job spot named taken e =
    record { job = job; asked = inr named; taken = taken; first = world_unbuilt shown.Wire job (first_unbuilt job) spot refl e }
accepted_unbuilt words source source' mode.Check job spot named taken e = absurd cc

job_unbuilt : (words : List (List ℕ)) (source source' : SourceState) (asked : Mode) (text : List ℕ) (job : Job) (o : Option Refused) (spot : Spot) →
    mode_of words ≡ Some asked → job_in text ≡ Ok job → refusal_of job ≡ o → length text ≤ longest_job → Loses source.left source'.left text → IsAtEnd source'.left →
    BadJob NotBuilt spot ≡ (due_to_job asked job o).status → IsUnbuilt words source source' spot
job_unbuilt words source source' asked text job None spot named is fine short read end e =
    accepted_unbuilt words source source' asked job spot named (takes source source' text job is fine short read end) e
job_unbuilt words source source' asked text job (Some refused) spot named is fine short read end e = absurd cc

text_unbuilt : (words : List (List ℕ)) (source source' : SourceState) (asked : Mode) (text : List ℕ) (r : Result Job Refusal) (spot : Spot) →
    mode_of words ≡ Some asked → job_in text ≡ r → length text ≤ longest_job → Loses source.left source'.left text → IsAtEnd source'.left →
    BadJob NotBuilt spot ≡ (due_to_reading asked r).status → IsUnbuilt words source source' spot
text_unbuilt words source source' asked text (Ok job) spot named is short read end e =
    job_unbuilt words source source' asked text job (refusal_of job) spot named is refl short read end e
text_unbuilt words source source' asked text (Err r) spot named is short read end e = absurd cc

input_unbuilt : (words : List (List ℕ)) (source source' : SourceState) (input : Input) (spot : Spot) →
    IsInput words source.left source'.left input → BadJob NotBuilt spot ≡ (due_to input).status → IsUnbuilt words source source' spot
input_unbuilt words source source' WrongWords spot is e = absurd cc
input_unbuilt words source source' TooLong spot is e = absurd cc
input_unbuilt words source source' (Whole asked text) spot is e =
    text_unbuilt words source source' asked text (job_in text) spot is.0 refl is.1 is.2 is.3 e

pub is_unbuilt : (words : List (List ℕ)) (source source' : SourceState) (sink sink' : SinkState) (s : Status) →
    Ends words source source' sink sink' s → (spot : Spot) → s ≡ BadJob NotBuilt spot → IsUnbuilt words source source' spot
is_unbuilt words source source' sink sink' Done e spot is = absurd cc
is_unbuilt words source source' sink sink' BadWords e spot is = absurd cc
is_unbuilt words source source' sink sink' (BadJob refusal at) e spot is = input_unbuilt words source source' e.0 spot e.1 (sym is ∙ e.2)
is_unbuilt words source source' sink sink' ReadFault e spot is = absurd cc
is_unbuilt words source source' sink sink' WriteFault e spot is = absurd cc
is_unbuilt words source source' sink sink' NoMemory e spot is = absurd cc
is_unbuilt words source source' sink sink' Unfinished e spot is = absurd cc

-- no more than the limit, and more
not_more : (n : ℕ) → n ≤ longest_job → nat_lt longest_job n ≡ false
not_more n le = grind arith

more : (n : ℕ) → longest_job < n → nat_lt longest_job n ≡ true
more n lt = grind arith

-- what came in with a mode, by the length of what the source held
short_input : (words : List (List ℕ)) (asked : Mode) (bytes : List ℕ) → mode_of words ≡ Some asked → length bytes ≤ longest_job →
    input_of words bytes ≡ Whole asked bytes
short_input words asked bytes named short =
    ap (λ (o : Option Mode). input_in o bytes) named
    ∙ ap (λ (b : Bool). if b then TooLong else Whole asked bytes) (not_more (length bytes) short)

long_input : (o : Option Mode) (bytes : List ℕ) → is_some o ≡ true → longest_job < length bytes → input_in o bytes ≡ TooLong
long_input None bytes some long = absurd cc
long_input (Some asked) bytes some long = ap (λ (b : Bool). if b then TooLong else Whole asked bytes) (more (length bytes) long)

-- what came in is what the words and all that the source held make it
text_held : (left' : Option (List ℕ)) (held text : List ℕ) → Loses (Some held) left' text → IsAtEnd left' → text ≡ held
text_held None held text loses end = absurd loses
text_held (Some new) held text loses end = sym (loses ∙ ap (λ (l : List ℕ). text ++ l) end ∙ append-nil text)

longer_held : (left' : Option (List ℕ)) (held bytes : List ℕ) → longest_job < length bytes → Loses (Some held) left' bytes → longest_job < length held
longer_held None held bytes long loses = absurd loses
longer_held (Some new) held bytes long loses = omega (arith, ap length loses, length-append bytes new)

pub input_is : (words : List (List ℕ)) (left left' : Option (List ℕ)) (held : List ℕ) (input : Input) →
    left ≡ Some held → IsInput words left left' input → input_of words held ≡ input
input_is words left left' held WrongWords e is = ap (λ (o : Option Mode). input_in o held) is.0
input_is words left left' held TooLong e is =
    let loses = subst (λ (o : Option (List ℕ)). Loses o left' is.1.0) e is.1.2 in
    long_input (mode_of words) held is.0 (longer_held left' held is.1.0 is.1.1 loses)
input_is words left left' held (Whole asked text) e is =
    let loses = subst (λ (o : Option (List ℕ)). Loses o left' text) e is.2 in
    let same = text_held left' held text loses is.3 in
    let short = subst (λ (l : List ℕ). length l ≤ longest_job) same is.1 in
    short_input words asked held is.0 short ∙ ap (Whole asked) (sym same)

-- what came in is what is due to the words and to what the source held
due_is : (words : List (List ℕ)) (left left' : Option (List ℕ)) (held : List ℕ) (input : Input) →
    left ≡ Some held → IsInput words left left' input → due_to input ≡ due_to (input_of words held)
due_is words left left' held input told is = ap due_to (sym (input_is words left left' held input told is))

status_is : (words : List (List ℕ)) (left left' : Option (List ℕ)) (held : List ℕ) (input : Input) (s : Status) →
    left ≡ Some held → IsInput words left left' input → s ≡ (due_to input).status → s ≡ (due_to (input_of words held)).status
status_is words left left' held input s told is e = e ∙ ap (λ (d : Due). d.status) (due_is words left left' held input told is)

-- the status is the one that is due, unless the call was cut short
pub is_due : (words : List (List ℕ)) (source source' : SourceState) (sink sink' : SinkState) (s : Status) →
    Ends words source source' sink sink' s → (held : List ℕ) → source.left ≡ Some held → IsUnlessCut (due_to (input_of words held)).status s
is_due words source source' sink sink' Done e held told = status_is words source.left source'.left held e.0 Done told e.1 e.2
is_due words source source' sink sink' BadWords e held told = status_is words source.left source'.left held e.0 BadWords told e.1 e.2
is_due words source source' sink sink' (BadJob refusal spot) e held told = status_is words source.left source'.left held e.0 (BadJob refusal spot) told e.1 e.2
is_due words source source' sink sink' ReadFault e held told = tt
is_due words source source' sink sink' WriteFault e held told = tt
is_due words source source' sink sink' NoMemory e held told = tt
is_due words source source' sink sink' Unfinished e held told = status_is words source.left source'.left held e.0 Unfinished told e.1 e.2

-- what is due to an accepted job is due where it is given
given_due : (asked : Mode) (words : List (List ℕ)) (source : SourceState) (job : Job) (given : IsGiven asked words source job) →
    due_to (input_of words given.text) ≡ due_to_accepted asked job
given_due asked words source job given =
    ap due_to (short_input words asked given.text given.named given.short)
    ∙ ap (due_to_reading asked) (is_read given.text job given.spelled)
    ∙ ap (due_to_job asked job) (none_if_accepted job given.accepted)

given_is : (asked : Mode) (words : List (List ℕ)) (source source' : SourceState) (job : Job) (given : IsGiven asked words source job) (input : Input) →
    IsInput words source.left source'.left input → due_to input ≡ due_to_accepted asked job
given_is asked words source source' job given input is =
    due_is words source.left source'.left given.text input given.told is ∙ given_due asked words source job given

-- another status than the one that is due
other_status : (d d' : Due) (s s' : Status) → d ≡ d' → s ≡ d.status → d'.status ≡ s' → s ≡ s'
other_status d d' s s' same e is = e ∙ ap (λ (x : Due). x.status) same ∙ is

not_bad_words : BadWords ≡ Done → ⊥
not_bad_words e = cc

not_bad_job : (refusal : Reason) (spot : Spot) → BadJob refusal spot ≡ Done → ⊥
not_bad_job refusal spot e = cc

not_unfinished : Unfinished ≡ Done → ⊥
not_unfinished e = cc

-- with the laws of journals
module _ (law : AreLawful) where
  -- a job that is given and can be run is run, where what is due is these items of it
  answered_ran : (asked : Mode) (shown : Shown) (items : List Item) (words : List (List ℕ)) (source source' : SourceState) (sink sink' : SinkState) (s : Status) (job : Job) →
      shown_text shown (wire_of job) ≡ text_of items → due_to_accepted asked job ≡ due_to_world shown job (first_unbuilt job) →
      Answered words source source' sink sink' s → IsGiven asked words source job → first_unbuilt job ≡ None → RunEnds job items sink sink' s
  answered_ran asked shown items words source source' sink sink' s job text accepted e given built =
      let due = given_is asked words source source' job given e.0 e.1 ∙ accepted ∙ ap (due_to_world shown job) built in
      subst (RunEnds job items sink sink') (sym (other_status _ _ _ _ due e.2 refl))
      (run_ends law job items sink sink' (is_left_unfinished job) given.spelled.writable given.accepted built refl
      (gains_same _ _ _ _ text (subst (λ (d : Due). Gains sink.written sink'.written d.output) due e.3)))

  ran : (asked : Mode) (shown : Shown) (items : List Item) (words : List (List ℕ)) (source source' : SourceState) (sink sink' : SinkState) (s : Status) (job : Job) →
      shown_text shown (wire_of job) ≡ text_of items → due_to_accepted asked job ≡ due_to_world shown job (first_unbuilt job) →
      Ends words source source' sink sink' s → IsGiven asked words source job → first_unbuilt job ≡ None → RunEnds job items sink sink' s
  ran asked shown items words source source' sink sink' Done job text accepted e given built = answered_ran asked shown items words source source' sink sink' Done job text accepted e given built
  ran asked shown items words source source' sink sink' BadWords job text accepted e given built = answered_ran asked shown items words source source' sink sink' BadWords job text accepted e given built
  ran asked shown items words source source' sink sink' (BadJob refusal spot) job text accepted e given built =
      answered_ran asked shown items words source source' sink sink' (BadJob refusal spot) job text accepted e given built
  ran asked shown items words source source' sink sink' ReadFault job text accepted e given built = tt
  ran asked shown items words source source' sink sink' WriteFault job text accepted e given built = tt
  ran asked shown items words source source' sink sink' NoMemory job text accepted e given built = tt
  ran asked shown items words source source' sink sink' Unfinished job text accepted e given built = answered_ran asked shown items words source source' sink sink' Unfinished job text accepted e given built

  -- and is done, since its tail is enough
  done_for : (job : Job) (items : List Item) (sink sink' : SinkState) (s : Status) → RunEnds job items sink sink' s → IsDoneUnlessCut (IsWholeRun job items sink sink') s
  done_for job items sink sink' Done run = run
  done_for job items sink sink' BadWords run = run
  done_for job items sink sink' (BadJob refusal spot) run = run
  done_for job items sink sink' ReadFault run = tt
  done_for job items sink sink' WriteFault run = tt
  done_for job items sink sink' NoMemory run = tt
  done_for job items sink sink' Unfinished run = none_unfinished law job items sink sink' run

  pub is_ran : (words : List (List ℕ)) (source source' : SourceState) (sink sink' : SinkState) (s : Status) → Ends words source source' sink sink' s →
      (job : Job) → IsGiven mode.Run words source job → first_unbuilt job ≡ None → IsDoneUnlessCut (IsRun job sink sink') s
  is_ran words source source' sink sink' s e job given built =
      done_for job (journal_of job) sink sink' s (ran mode.Run shown.Journal (journal_of job) words source source' sink sink' s job (journal_text job) refl e given built)

  pub is_wired : (words : List (List ℕ)) (source source' : SourceState) (sink sink' : SinkState) (s : Status) → Ends words source source' sink sink' s →
      (job : Job) → IsGiven mode.Wire words source job → first_unbuilt job ≡ None → IsDoneUnlessCut (IsWired job sink sink') s
  is_wired words source source' sink sink' s e job given built =
      done_for job (wire_of job) sink sink' s (ran mode.Wire shown.Wire (wire_of job) words source source' sink sink' s job (wire_text job) refl e given built)

-- a job that is given is printed
pub is_printed : (words : List (List ℕ)) (source source' : SourceState) (sink sink' : SinkState) (s : Status) → Ends words source source' sink sink' s →
    (job : Job) → IsGiven mode.Check words source job → IsDoneUnlessCut (IsCheck job sink sink') s
is_printed words source source' sink sink' Done e job given = record {
  alone = canonical_alone job record { text = given.text; told = job; spelled = given.spelled; same = refl };
  gained = subst (λ (d : Due). Gains sink.written sink'.written d.output) (given_is mode.Check words source source' job given e.0 e.1) e.3;
}
is_printed words source source' sink sink' BadWords e job given =
    not_bad_words (other_status _ _ _ _ (given_is mode.Check words source source' job given e.0 e.1) e.2 refl)
is_printed words source source' sink sink' (BadJob refusal spot) e job given =
    not_bad_job refusal spot (other_status _ _ _ _ (given_is mode.Check words source source' job given e.0 e.1) e.2 refl)
is_printed words source source' sink sink' ReadFault e job given = tt
is_printed words source source' sink sink' WriteFault e job given = tt
is_printed words source source' sink sink' NoMemory e job given = tt
is_printed words source source' sink sink' Unfinished e job given =
    not_unfinished (other_status _ _ _ _ (given_is mode.Check words source source' job given e.0 e.1) e.2 refl)
