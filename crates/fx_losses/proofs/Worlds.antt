-- In every world that arises, of every job, the world shows its ballots; so processes of one epoch have the same of it.
use Rattle.std.proofs.Common.{◌≡◌, ℕ, suc, true, false, List, ◌∷◌, Option, Some, None, inl, inr, sym, ap, ◌∙◌}
use Rattle.std.proofs.lemmas.Bool.{cases_eq}
use Rattle.fx_ballot.specs.World.{start, tells, kills}
use Rattle.fx_ballot.specs.World as ballot
use Rattle.fx_link.specs.declared.slot.Slot.{Slot}
use Rattle.fx_machine.specs.Nodes.{Act}
use Rattle.fx_machine.specs.Setup.{Setup}
use Rattle.fx_machine.specs.Steps.{next}
use Rattle.fx_machine.specs.Texts.{Text}
use Rattle.fx_deeds.specs.Always.{IsKept}
use Rattle.fx_deeds.proofs.Every.{is_deed}
use Rattle.fx_deeds.proofs.Whole.{always}
use Rattle.fx_fleet.specs.Rounds.{Moment, whole}
use Rattle.fx_fleet.specs.World.{World, first_world, up, does, receives_front, learns, loses}
use Rattle.fx_losses.specs.Eras.{Era, first_era, era_of, era}
use Rattle.fx_losses.specs.Losses.{EpochsAgree}
use Rattle.fx_losses.proofs.Eras.{era_grows}
use Rattle.fx_losses.proofs.Events.{behind_delivery, deliver_shows, self_shows, got_own}
use Rattle.fx_losses.proofs.Losses.{loss_shows, kills_heard, start_shows}
use Rattle.fx_losses.proofs.Moves.{some_era, shows_step}
use Rattle.fx_losses.proofs.Notices.{notice_shows, tells_vote, tells_estimate}
use Rattle.fx_losses.proofs.Plays.{Plays, deed_plays}
use Rattle.fx_losses.proofs.Shows.{Shows, Truthful}
use Rattle.fx_losses.proofs.Texts.{text_in, of_epoch}
use Rattle.fx_losses.proofs.Truths.{truthful_grows, truthful_step, truthful_same, truthful_receives, truthful_learns, truthful_loses, truthful_first}

-- ballots that the world shows, and what they decided
pub record Showing (s : Setup) (w : World) : Type 0 where
  pub worlds : ℕ → ballot.World
  pub fate : ℕ → Option (List Slot)
  pub shows : Shows s w worlds fate
  pub truthful : Truthful s w worlds fate

acts_shows : (s : Setup) (p : ℕ) (w : World) (act : Act) → up s w p ≡ true → next s (w.node p) ≡ Some act → Showing s w → Showing s (does s p act w)
acts_shows s p w act on e is =
    let o : Plays s p act w is.worlds is.fate = deed_plays s w is.worlds is.fate p on is.shows is.truthful act (is_deed s (w.node p) act e) in
    record {
      worlds = _;
      fate = o.fate_now;
      shows = shows_step s p act o.said o.to w is.worlds is.fate o.fate_now o.after on o.steps o.deems is.shows;
      truthful = truthful_step s p act o.said o.to w is.worlds is.fate o.fate_now o.after on o.steps is.shows (λ d x i. era_grows (first_era s) is.fate o.fate_now o.deems.grows d x i) o.saying o.sending is.truthful;
    }

hears_shows : (s : Setup) (a b : ℕ) (t : Text) (rest : List Text) (w : World) → up s w b ≡ true → w.link a b ≡ t ∷ rest → Showing s w → Showing s (receives_front a b (t ∷ rest) w)
hears_shows s a b t rest w on front is = elim (cases_eq a b) [
  | inl same ↦ record {
    worlds = is.worlds;
    fate = is.fate;
    shows = self_shows s a b t rest w is.worlds is.fate on front is.shows same;
    truthful = truthful_receives s is.worlds is.fate a b t rest w front is.truthful;
  }
  | inr ne ↦ record {
    worlds = behind_delivery s a b t rest w is.worlds is.fate on front is.shows ne;
    fate = is.fate;
    shows = deliver_shows s a b t rest w is.worlds is.fate on front is.shows ne;
    truthful = truthful_same s is.worlds (behind_delivery s a b t rest w is.worlds is.fate on front is.shows ne) is.fate (receives_front a b (t ∷ rest) w)
        (λ d q. got_own a b (text_in (suc d) t) (of_epoch (suc d) rest) (is.worlds d) ne q) (truthful_receives s is.worlds is.fate a b t rest w front is.truthful);
  }
]

pub shows_kept : (s : Setup) → IsKept s (Showing s)
shows_kept s = record {
  acts = λ p w act on e is. acts_shows s p w act on e is;
  hears = λ p q t rest w on front is. hears_shows s p q t rest w on front is;
  kills = λ p w on is. record {
    worlds = λ d. kills p (is.worlds d);
    fate = is.fate;
    shows = loss_shows s p w is.worlds is.fate is.shows;
    truthful = truthful_same s is.worlds (λ d. kills p (is.worlds d)) is.fate (loses s p w) (λ d q. kills_heard p q q (is.worlds d)) (truthful_loses s is.worlds is.fate p w is.truthful);
  };
  tells = λ p q w dead on untold is. record {
    worlds = λ d. tells p q (is.worlds d);
    fate = is.fate;
    shows = notice_shows s p q w is.worlds is.fate dead is.shows;
    truthful = truthful_grows s is.worlds (λ d. tells p q (is.worlds d)) is.fate is.fate (λ d c x e. tells_vote p q (is.worlds d) c ∙ e) (λ d c x e. tells_estimate p q (is.worlds d) c ∙ e) (λ d x e. e) (learns p q w)
        (truthful_learns s is.worlds is.fate p q w is.truthful);
  };
}

first_shows : (s : Setup) → Showing s (first_world s)
first_shows s = record { worlds = λ d. start; fate = λ d. None; shows = start_shows s; truthful = truthful_first s (λ d. start) (λ d. None) }

pub all_show : (s : Setup) (fuel bound : ℕ) (moments : List Moment) → Showing s (whole s fuel bound moments)
all_show s fuel bound moments = always s (Showing s) (shows_kept s) (first_shows s) fuel bound moments

-- ---- one epoch

agree : (s : Setup) (w : World) → Showing s w → EpochsAgree s w
agree s w is = record {
  present = λ p q one other same. ap (λ (x : Era). x.who) (same_era p q one other same);
  comm = λ p q one other same. ap (λ (x : Era). x.comm) (same_era p q one other same);
  there = λ p few living. (is.shows.sane p living).mine few;
}
  where
    same_era : (p q : ℕ) → w.killed p ≡ false → w.killed q ≡ false → (w.node p).epoch ≡ (w.node q).epoch → era_of (w.node p) ≡ era_of (w.node q)
    same_era p q one other same = some_era (era_of (w.node p)) (era_of (w.node q)) (sym (is.shows.here p one) ∙ ap (era (first_era s) is.fate) same ∙ is.shows.here q other)

pub epochs_agree : (s : Setup) (fuel bound : ℕ) (moments : List Moment) → EpochsAgree s (whole s fuel bound moments)
epochs_agree s fuel bound moments = agree s (whole s fuel bound moments) (all_show s fuel bound moments)
