-- Orders as they are handed over, as steps of the law; the last number is the room for what goes out.
use Rattle.std.specs.Prelude.{ℕ, Bool, List, Option}
use Rattle.rules.specs.Order.{Delete, Handover, Step, define, delete, answer, handover}
use Rattle.rules.specs.Recorded.{define_of}
use Rattle.rules.specs.declared.AnswerKind.{AnswerKind}
use Rattle.order.specs.Numbers.{radio_number, group_number}
use Rattle.order.specs.Lists.{identity_of, numbers_of, list_of}
use Rattle.order.specs.declared.Gtsi.{Gtsi}
use Rattle.order.specs.declared.Itsi.{Itsi}
use Rattle.order.specs.declared.Identity.{Identity}
use Rattle.order.specs.declared.Numbers.{Numbers}

abbrev pub define_step : Itsi → List ℕ → ℕ → Step
define_step asker places room = define (define_of (radio_number asker) places) room

abbrev pub delete_of : Itsi → Numbers → Bool → Bool → Option Numbers → Bool → Delete
delete_of asker groups remove deassign radios acknowledgement = record {
  asker = radio_number asker;
  groups = numbers_of groups;
  delete = remove;
  deassign = deassign;
  radios = list_of radios;
  acknowledgement = acknowledgement;
}

abbrev pub delete_step : Itsi → Numbers → Bool → Bool → Option Numbers → Bool → ℕ → Step
delete_step asker groups remove deassign radios acknowledgement room = delete (delete_of asker groups remove deassign radios acknowledgement) room

abbrev pub answer_step : Itsi → Gtsi → AnswerKind → ℕ → Step
answer_step radio group kind result = answer (record { radio = radio_number radio; group = group_number group; kind = kind; result = result })

abbrev pub handover_of : Itsi → Identity → Numbers → Handover
handover_of asker group owners = record { asker = radio_number asker; group = identity_of group; owners = numbers_of owners }

abbrev pub handover_step : Itsi → Identity → Numbers → Step
handover_step asker group owners = handover (handover_of asker group owners)
