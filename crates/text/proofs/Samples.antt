-- Replies as the documents print them.
use mathlib.Core.Path.{◌≡◌, refl}
use mathlib.Core.List.{[], ◌∷◌}
use Prim.Native.Nat.{◌-◌}
use Rattle.std.specs.Prelude.{Ok, Err}
use lib.ListN.{replicate}
use Rattle.refusal.specs.declared.Refusal.TheVariants.{NoGroup, NoRoom}
use Rattle.rules.specs.Written.{max_owners}
use Rattle.replies.specs.declared.Shown.{Shown}
use Rattle.replies.specs.Showing.{nobody}
use Rattle.house.specs.Hex.{digit_of}
use Rattle.text.specs.Digits.{quoted}
use Rattle.text.specs.Text.{reply_text, order_text, member_text, listed_text, shown_text}

pub refused-5 : reply_text (Err NoGroup) ≡ quoted "R5"
unfolding digit_of
refused-5 = refl

pub refused-17 : reply_text (Err NoRoom) ≡ quoted "R17"
unfolding digit_of
refused-17 = refl

pub sent-one : listed_text order_text (Ok 1) ((0 ∷ 9 ∷ 3 ∷ 5 ∷ 4 ∷ []) ∷ (1 ∷ 9 ∷ 3 ∷ 5 ∷ 4 ∷ []) ∷ []) ≡ quoted "A a:000009/000003:000005/000004"
unfolding digit_of
sent-one = refl

pub listed-one : listed_text member_text (Ok 1) ((9 ∷ 3 ∷ 2 ∷ []) ∷ []) ≡ quoted "A 000009/000003=2"
unfolding digit_of
listed-one = refl

pub yard : Shown
yard = record {
  count = 3;
  owners = (1, 4) ∷ (2, 5) ∷ (3, 6) ∷ replicate (max_owners - 3) nobody;
  reference = 8;
  acknowledged = 1;
  broadcast = 2;
  class = 7;
  lifetime = 4;
  temporary = 6;
  letters = 6;
  name = 0x59 ∷ 0x61 ∷ 0x72 ∷ 0x64 ∷ 0x20 ∷ 0x35 ∷ replicate 10 0;
}

pub yard-shown : shown_text (Ok yard)
    ≡ quoted "A owners=000001/000004,000002/000005,000003/000006 set=7 call=0 broadcast=1 name=596172642035 class=6 lifetime=3 temporary=5"
unfolding digit_of yard
yard-shown = refl
