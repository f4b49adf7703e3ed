-- The text of a job, part by part, and what is written of it.
use Rattle.std.proofs.Common.{◌≡◌, ℕ, suc, ◌+◌, ◌<◌, List, [], ◌∷◌, ◌++◌, length, get_or, drop, sym, ap, ◌∙◌, append_assoc, add-one, drop-cons}
use Rattle.std.specs.Prelude.{ℤ, map, codes}
use Rattle.std.specs.Fmt.{signed_decimal}
use Rattle.std.proofs.lemmas.List.{append-nil}
use Rattle.fx_script.specs.declared.job.Callback.{Callback}
use Rattle.fx_script.specs.declared.job.Event.{Event}
use Rattle.fx_script.specs.declared.job.Job.{Job}
use Rattle.fx_script.specs.Canonical.{entry_line, text_of, canonical}
use Rattle.fx_script.specs.Spelling.{Entry, kept_at, anywhere, chained, stmts_entries, decl_entry, callback_entries, event_entry, heading}
use Rattle.fx_script.proofs.PrintLemmas.{text_append}
use Rattle.fx_script.proofs.TextLemmas.{ended, block_text}

-- ---- texts

-- a line of a word and a number
abbrev pub numbered : List ℕ → ℤ → List ℕ
numbered word n = ended (word ∷ signed_decimal n ∷ [])

pub heading_text : (job : Job) → text_of (heading job)
    ≡ ended (codes "fenix 1" ∷ []) ++ (numbered (codes "ranks") job.ranks ++ (numbered (codes "spares") job.spares ++ numbered (codes "separation") job.separation))
heading_text job =
    ap (λ (l : List ℕ). ended (codes "fenix 1" ∷ []) ++ (numbered (codes "ranks") job.ranks ++ (numbered (codes "spares") job.spares ++ l)))
    (append-nil (numbered (codes "separation") job.separation))

pub callback_text : (c : Callback) → text_of (callback_entries c) ≡ ended (codes "callback" ∷ c.name ∷ []) ++ (text_of (stmts_entries c.body) ++ ended (codes "endcallback" ∷ []))
callback_text c = block_text (kept_at c.spot (codes "callback" ∷ c.name ∷ [])) (stmts_entries c.body) (anywhere (codes "endcallback"))

-- the text from a callback on begins with its own
pub callbacks_from : (callbacks : List Callback) (k : ℕ) (c : Callback) → k < length callbacks → c ≡ get_or callbacks k c →
    text_of (chained (map callback_entries (drop k callbacks))) ≡ text_of (callback_entries c) ++ text_of (chained (map callback_entries (drop (k + 1) callbacks)))
callbacks_from callbacks k c below is =
    ap (λ (cs : List Callback). text_of (chained (map callback_entries cs))) (drop-cons callbacks k c below)
    ∙ rw (← is, add-one) (text_append (callback_entries c) (chained (map callback_entries (drop (suc k) callbacks))))

-- the schedule with its first and its last line
abbrev pub schedule_entries : List Event → List Entry
schedule_entries events = anywhere (codes "schedule") ∷ (map event_entry events ++ anywhere (codes "stop") ∷ [])

pub schedule_text : (events : List Event) → text_of (schedule_entries events) ≡ ended (codes "schedule" ∷ []) ++ (text_of (map event_entry events) ++ ended (codes "stop" ∷ []))
schedule_text events = block_text (anywhere (codes "schedule")) (map event_entry events) (anywhere (codes "stop"))

parts_text : (first names calls : List Entry) (begin : Entry) (body : List Entry) (end : Entry) (rest : List Entry)
    → text_of (first ++ (names ++ (calls ++ begin ∷ (body ++ end ∷ rest))))
    ≡ text_of first ++ (text_of names ++ (text_of calls ++ (entry_line begin ++ ((text_of body ++ entry_line end) ++ text_of rest))))
parts_text first names calls begin body end rest =
    text_append first (names ++ (calls ++ begin ∷ (body ++ end ∷ rest)))
    ∙ ap (λ (l : List ℕ). text_of first ++ l) (text_append names (calls ++ begin ∷ (body ++ end ∷ rest))
    ∙ ap (λ (l : List ℕ). text_of names ++ l) (text_append calls (begin ∷ (body ++ end ∷ rest))
    ∙ ap (λ (l : List ℕ). text_of calls ++ (entry_line begin ++ l)) (text_append body (end ∷ rest) ∙ sym (append_assoc (text_of body) (entry_line end) (text_of rest)))))

parts_again : (first names calls body events : List Entry) (begin end schedule stop : Entry)
    → first ++ names ++ calls ++ begin ∷ [] ++ body ++ end ∷ schedule ∷ [] ++ events ++ stop ∷ []
    ≡ first ++ (names ++ (calls ++ begin ∷ (body ++ end ∷ schedule ∷ (events ++ stop ∷ []))))
parts_again first names calls body events begin end schedule stop = simp append_assoc

pub job_text : (job : Job) → canonical job
    ≡ text_of (heading job) ++ (text_of (map decl_entry job.names) ++ (text_of (chained (map callback_entries job.callbacks))
    ++ (ended (codes "begin" ∷ []) ++ ((text_of (stmts_entries job.body) ++ ended (codes "end" ∷ [])) ++ text_of (schedule_entries job.events)))))
job_text job =
    let begin = kept_at job.begin_spot (codes "begin" ∷ []) in
    let end = anywhere (codes "end") in
    ap text_of (parts_again (heading job) (map decl_entry job.names) (chained (map callback_entries job.callbacks)) (stmts_entries job.body) (map event_entry job.events) begin end (anywhere (codes "schedule")) (anywhere (codes "stop")))
    ∙ parts_text (heading job) (map decl_entry job.names) (chained (map callback_entries job.callbacks)) begin (stmts_entries job.body) end (schedule_entries job.events)

-- ---- what is written

-- four pieces one behind another
pub in_four : (start a b c d one two three : List ℕ) → one ≡ start ++ a → two ≡ one ++ b → three ≡ two ++ c → three ++ d ≡ start ++ (a ++ (b ++ (c ++ d)))
in_four start a b c d one two three p q r = rw (r, q, p) (simp append_assoc)

-- six pieces one behind another
pub in_six : (start a b c d e f one two three four five : List ℕ) → one ≡ start ++ a → two ≡ one ++ b → three ≡ two ++ c → four ≡ three ++ d → five ≡ four ++ e →
    five ++ f ≡ start ++ (a ++ (b ++ (c ++ (d ++ (e ++ f)))))
in_six start a b c d e f one two three four five p q r s t = rw (t, s, r, q, p) (simp append_assoc)
