-- Document 02, P10, for any history: the placing by number and the placing by arrival are alike.
use mathlib.Core.Path.{sym, ◌∙◌}
use Rattle.rules.specs.Placing.{Placing, Lawful}
use Rattle.rules.specs.Arrival.{by_arrival}
use Rattle.rules.specs.ByNumber.{by_number}
use Rattle.rules.specs.History.{History}
use Rattle.rules.specs.Alike.{Alike}
use Rattle.rules.proofs.Arrival.{by-arrival}
use Rattle.rules.proofs.ByNumber.{by_number_lem}
use Rattle.rules.proofs.Agree.{run_agree, groups-agree, pairs-agree, refusal-agree, sent-agree, list-agree, show-agree}
use Rattle.rules.proofs.Written.{run-written}

-- any two lawful placings
pub alike : (old new : Placing) → Lawful old → Lawful new → (h : History) → Alike old new h
alike old new a b h = record {
  stand = run_agree new b h ∙ sym (run_agree old a h);
  groups = groups-agree new b h ∙ sym (groups-agree old a h);
  pairs = pairs-agree new b h ∙ sym (pairs-agree old a h);
  refuses = λ s. refusal-agree new b h s ∙ sym (refusal-agree old a h s);
  sends = λ s. sent-agree new b h s ∙ sym (sent-agree old a h s);
  lists = λ asker g room. list-agree new b h asker g room ∙ sym (list-agree old a h asker g room);
  shows = λ asker g. show-agree new b h asker g ∙ sym (show-agree old a h asker g);
  form_old = run-written old a h;
  form_new = run-written new b h;
}

pub as_before : (h : History) → Alike by_arrival by_number h
as_before = alike by_arrival by_number by-arrival by_number_lem
