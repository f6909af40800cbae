-- Document 02, P10: "in any run from empty old and new layout stand for the same groups and pairs after every operation, and every
-- reply, refusal and outgoing order is what the old one gave". Two placings are alike after a history; a history is any run, so that
-- this is said after every operation of it.
use Rattle.std.specs.Prelude.{ℕ, ◌≡◌, true, length}
use Rattle.rules.specs.Number.{Number}
use Rattle.rules.specs.Order.{Step}
use Rattle.rules.specs.Ledger.{view, list, show}
use Rattle.rules.specs.Placing.{Placing}
use Rattle.rules.specs.Steps.{refused, sent}
use Rattle.rules.specs.Written.{written}
use Rattle.rules.specs.History.{History}
use Rattle.rules.specs.Run.{run}

pub record Alike (old new : Placing) (h : History) : Type 0 where
  -- the same groups, with their owners and parameters, and the same pairs, with their marks; and as many of each
  pub stand : view (run new h) ≡ view (run old h)
  pub groups : length (run new h).groups ≡ length (run old h).groups
  pub pairs : length (run new h).pairs ≡ length (run old h).pairs
  -- every further step is refused alike, and sends the same orders; every list and every show is the same, refused ones too
  pub refuses : (s : Step) → refused new (run new h) s ≡ refused old (run old h) s
  pub sends : (s : Step) → sent new (run new h) s ≡ sent old (run old h) s
  pub lists : (asker g : Number) (room : ℕ) → list (run new h) asker g room ≡ list (run old h) asker g room
  pub shows : (asker g : Number) → show (run new h) asker g ≡ show (run old h) asker g
  -- each layout is in its own written form
  pub form_old : written old (run old h) ≡ true
  pub form_new : written new (run new h) ≡ true
