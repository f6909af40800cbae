-- The number of each refusal, as the table of document 01 and the requests of document 02 give it.
use Rattle.std.specs.Prelude.{ℕ}
use Rattle.refusal.specs.declared.Refusal.{Refusal}
use Rattle.refusal.specs.declared.Refusal.TheVariants.{EndsInside, BitsRemain, WrongKind, Reserved, NoGroup, NothingFollows, TypeThree}
use Rattle.refusal.specs.declared.Refusal.TheVariants.{NoSpace, BadLine, BadOrder, FormNotTaken, NoSuchGroup, NotOwner, NotOpen, NothingToDo}
use Rattle.refusal.specs.declared.Refusal.TheVariants.{Full, NoRoom, NotWritten, BadRange, TooManyNumbers, TooManyOwners}

abbrev pub number_of : Refusal → ℕ
number_of EndsInside = 1
number_of BitsRemain = 2
number_of WrongKind = 3
number_of Reserved = 4
number_of NoGroup = 5
number_of NothingFollows = 6
number_of TypeThree = 7
number_of NoSpace = 8
number_of BadLine = 9
number_of BadOrder = 10
number_of FormNotTaken = 11
number_of NoSuchGroup = 12
number_of NotOwner = 13
number_of NotOpen = 14
number_of NothingToDo = 15
number_of Full = 16
number_of NoRoom = 17
number_of NotWritten = 18
number_of BadRange = 19
number_of TooManyNumbers = 20
number_of TooManyOwners = 21
