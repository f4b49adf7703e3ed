use Rattle.std.proofs.Common.{map, string_bytes}
use Rattle.fx_cli.proofs.Ending.{is_done, never_unfinished, is_unbuilt, is_due, is_ran, is_wired, is_printed}
use Rattle.fx_cli.proofs.program.fenix.Goals as goal

pub returns-clause-done : goal.returns-clause-done
returns-clause-done g c =
    is_done (record { legal = c.journals_are_legal.ensures.legal; losses = c.journals_are_legal.ensures.losses; over = c.journals_are_legal.ensures.over; ended = c.journals_are_legal.ensures.whole }) (map string_bytes c.args.words.now) (g.S.Source.state c.args.source.now) (g.S.Source.state c.call.new.source)
    (g.K.Sink.state c.args.sink.now) (g.K.Sink.state c.call.new.sink) c.call.result c.call.ensures.ends

pub returns-clause-not_built_is_accepted : goal.returns-clause-not_built_is_accepted
returns-clause-not_built_is_accepted g c =
    is_unbuilt (map string_bytes c.args.words.now) (g.S.Source.state c.args.source.now) (g.S.Source.state c.call.new.source)
    (g.K.Sink.state c.args.sink.now) (g.K.Sink.state c.call.new.sink) c.call.result c.call.ensures.ends

pub returns-clause-status_is_due : goal.returns-clause-status_is_due
returns-clause-status_is_due g c =
    is_due (map string_bytes c.args.words.now) (g.S.Source.state c.args.source.now) (g.S.Source.state c.call.new.source)
    (g.K.Sink.state c.args.sink.now) (g.K.Sink.state c.call.new.sink) c.call.result c.call.ensures.ends

pub returns-clause-jobs_are_run : goal.returns-clause-jobs_are_run
returns-clause-jobs_are_run g c =
    is_ran (record { legal = c.journals_are_legal.ensures.legal; losses = c.journals_are_legal.ensures.losses; over = c.journals_are_legal.ensures.over; ended = c.journals_are_legal.ensures.whole }) (map string_bytes c.args.words.now) (g.S.Source.state c.args.source.now) (g.S.Source.state c.call.new.source)
    (g.K.Sink.state c.args.sink.now) (g.K.Sink.state c.call.new.sink) c.call.result c.call.ensures.ends

pub returns-clause-accepted_jobs_are_printed : goal.returns-clause-accepted_jobs_are_printed
returns-clause-accepted_jobs_are_printed g c =
    is_printed (map string_bytes c.args.words.now) (g.S.Source.state c.args.source.now) (g.S.Source.state c.call.new.source)
    (g.K.Sink.state c.args.sink.now) (g.K.Sink.state c.call.new.sink) c.call.result c.call.ensures.ends

pub returns-clause-never_unfinished : goal.returns-clause-never_unfinished
returns-clause-never_unfinished g c =
    never_unfinished (record { legal = c.journals_are_legal.ensures.legal; losses = c.journals_are_legal.ensures.losses; over = c.journals_are_legal.ensures.over; ended = c.journals_are_legal.ensures.whole }) (map string_bytes c.args.words.now) (g.S.Source.state c.args.source.now) (g.S.Source.state c.call.new.source)
    (g.K.Sink.state c.args.sink.now) (g.K.Sink.state c.call.new.sink) c.call.result c.call.ensures.ends

pub returns-clause-jobs_are_wired : goal.returns-clause-jobs_are_wired
returns-clause-jobs_are_wired g c =
    is_wired (record { legal = c.journals_are_legal.ensures.legal; losses = c.journals_are_legal.ensures.losses; over = c.journals_are_legal.ensures.over; ended = c.journals_are_legal.ensures.whole }) (map string_bytes c.args.words.now) (g.S.Source.state c.args.source.now) (g.S.Source.state c.call.new.source)
    (g.K.Sink.state c.args.sink.now) (g.K.Sink.state c.call.new.sink) c.call.result c.call.ensures.ends
