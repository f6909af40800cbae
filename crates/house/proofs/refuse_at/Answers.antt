-- `house::refuse_at` meets its contract: the front of the buffer has room for the longest reply.
use Rattle.house.proofs.Texts.{sent-front}
use Rattle.house.proofs.refuse_at.Goals as goal

pub returns-in-Some : goal.returns-in-Some
returns-in-Some c = sent-front c.in-Some.ensures.cases c.told_at.ensures
