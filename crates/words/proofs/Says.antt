-- What readers answer of any line, in document 01's terms: 9 exactly where their word does not stand there.
use mathlib.Core.Path.{◌≡◌, refl, ap, ◌∙◌}
use mathlib.Core.Bool.{Bool, true, false, cond, ◌&&◌, ◌||◌}
use mathlib.Core.List.{List, [], ◌∷◌, ◌++◌}
use Prim.Native.Nat.{ℕ, zero, suc, ◌+◌, ◌*◌}
use native.Mathlib.Omega.{arith}
use lib.Dec.{leb, eqb}
use lib.ListN.{length, replicate}
use lib.Seq.{slice}
use borrow.Author.Tests.{ne_eqb}
use Rattle.std.specs.Prelude.{Option, Some, None}
use Rattle.std.specs.List.{flat_map}
use Rattle.refusal.specs.Says.{accepted, refused_with}
use Rattle.refusal.specs.declared.Refusal.TheVariants.{BadLine}
use Rattle.house.specs.Hex.{all_digits}
use Rattle.rules.specs.declared.AnswerKind.{AnswerKind}
use Rattle.rules.specs.declared.AnswerKind.TheVariants.{Assignment, Deassignment}
use Rattle.order.specs.declared.GroupAsked.{GroupAsked}
use Rattle.order.specs.declared.GroupAsked.TheVariants.{Whole, Plain}
use Rattle.order.specs.declared.Identity.{Identity}
use Rattle.order.specs.declared.Numbers.{Numbers}
use Rattle.words.specs.declared.Taken.{Taken}
use Rattle.words.specs.Character.{blank, comma, hyphen, dot, slash, colon, letter_n, letter_y, letter_a, letter_d}
use Rattle.words.specs.Words.{behind, found_or, stands_at, enough_at, mark_at, digits_at, word_at, number_at, group_at, room_at, either_at}
use Rattle.words.specs.Words.{choice_at, kind_at}
use Rattle.words.specs.Series.{identity_with, nobody, named_at, identity_at, item_at, list_from, series_at, series_or_none_at}
use Rattle.words.specs.Says.{taken_says, place_says, one, both, group_told, choice_told, kind_told, identity_told, list_told}
use Rattle.words.specs.Says.{list_or_none_told, digits_stand, standing, word_stands, room_stands, number_stands, group_stands}
use Rattle.words.specs.Says.{either_stands, identity_stands, identity_values, more_stand, more_values, begins, identities_stand}
use Rattle.words.specs.Says.{identities_values, series_stands, hyphen_stands}

-- of two readers in turn
behind-if : {A B : Type 0} (b : Bool) (x : A) (more : A → Option B) → behind (cond b (Some x) None) more ≡ cond b (more x) None
behind-if true x more = refl
behind-if false x more = refl

both-if : {A : Type 0} (a b : Bool) (x : Option A) → cond a (cond b x None) None ≡ cond (a && b) x None
both-if true b x = refl
both-if false b x = refl

-- of five tests in turn
five : {A : Type 0} (a b c d e : Bool) (x : Option A)
    → cond a (cond b (cond c (cond d (cond e x None) None) None) None) None ≡ cond (a && b && c && d && e) x None
five true true true true e x = refl
five true true true false e x = refl
five true true false d e x = refl
five true false c d e x = refl
five false b c d e x = refl

-- of a character that may stand there, and what else is read
found-if : {A : Type 0} (b : Bool) (next : ℕ) (more : ℕ → A) (other : A) → found_or (cond b (Some next) None) more other ≡ cond b (more next) other
found-if true next more other = refl
found-if false next more other = refl

-- what a list that goes on tells, and one that has ended
told-more : (taken : List Identity) (item : Identity) (rest : List ℕ)
    → flat_map identity_told (taken ++ item ∷ []) ++ rest ≡ flat_map identity_told taken ++ (identity_told item ++ rest)
told-more [] item rest = refl
told-more (one ∷ taken) item rest = ap (λ (l : List ℕ). identity_told one ++ l) (told-more taken item rest)

told-left : (taken : List Identity) (places at : ℕ)
    → flat_map identity_told (taken ++ replicate places nobody) ++ at ∷ [] ≡ flat_map identity_told taken ++ (replicate (4 * places) 0 ++ at ∷ [])
unfolding identity_with
told-left [] zero at = refl
told-left [] (suc places) at =
    let four : 4 * suc places ≡ suc (suc (suc (suc (4 * places)))) = omega arith in
    rw four (ap (λ (l : List ℕ). replicate 4 0 ++ l) (told-left [] places at))
told-left (one ∷ taken) places at = ap (λ (l : List ℕ). identity_told one ++ l) (told-left taken places at)

-- what is said where a word stands, and where none does
said : {A : Type 0} (told : A → List ℕ) (b : Bool) (taken : Taken A)
    → taken_says told (cond b (Some taken) None) ≡ cond b (accepted (told taken.value ++ taken.next ∷ [])) (refused_with BadLine)
said told true taken = refl
said told false taken = refl

placed : (b : Bool) (next : ℕ) → place_says (cond b (Some next) None) ≡ cond b (accepted (next ∷ [])) (refused_with BadLine)
placed true next = refl
placed false next = refl

module _ (line : List ℕ) where
  digits-is : (at width : ℕ) → digits_at line at width ≡ cond (digits_stand line at width) (Some (standing line at width)) None
  unfolding digits_at
  digits-is at width = both-if (enough_at line at width) (all_digits (slice at (at + width) line)) (Some (standing line at width))

  -- a mark, digits or a word, and what is read behind it
  then-mark : {B : Type 0} (at character : ℕ) (more : ℕ → Option B)
      → behind (mark_at line at character) more ≡ cond (stands_at line at character) (more (at + 1)) None
  unfolding mark_at
  then-mark at character more = behind-if (stands_at line at character) (at + 1) more

  then-found : {A : Type 0} (at character : ℕ) (more : ℕ → A) (other : A)
      → found_or (mark_at line at character) more other ≡ cond (stands_at line at character) (more (at + 1)) other
  unfolding mark_at
  then-found at character more other = found-if (stands_at line at character) (at + 1) more other

  then-digits : {B : Type 0} (at width : ℕ) (more : Taken ℕ → Option B)
      → behind (digits_at line at width) more ≡ cond (digits_stand line at width) (more (standing line at width)) None
  then-digits at width more =
      ap (λ (w : Option (Taken ℕ)). behind w more) (digits-is at width) ∙ behind-if (digits_stand line at width) (standing line at width) more

  word-is : (at width : ℕ) → word_at line at width ≡ cond (word_stands line at width) (Some (standing line (at + 1) width)) None
  word-is at width =
      then-mark at blank (λ from. digits_at line from width)
      ∙ ap (λ (w : Option (Taken ℕ)). cond (stands_at line at blank) w None) (digits-is (at + 1) width)
      ∙ both-if (stands_at line at blank) (digits_stand line (at + 1) width) (Some (standing line (at + 1) width))

  then-word : {B : Type 0} (at width : ℕ) (more : Taken ℕ → Option B)
      → behind (word_at line at width) more ≡ cond (word_stands line at width) (more (standing line (at + 1) width)) None
  then-word at width more =
      ap (λ (w : Option (Taken ℕ)). behind w more) (word-is at width) ∙ behind-if (word_stands line at width) (standing line (at + 1) width) more

  room-is : (at : ℕ) → room_at line at ≡ cond (room_stands line at) (Some (standing line (at + 1) 4)) None
  unfolding room_at
  room-is at = then-word at 4 _ ∙ both-if (word_stands line at 4) (leb (standing line (at + 1) 4).value 2048) (Some (standing line (at + 1) 4))

  -- an IDENTITY
  abbrev named : ℕ → Taken Identity
  named at =
      record { value = identity_with (standing line at 1).value (standing line (at + 2) 8).value (standing line (at + 11) 8).value; next = at + 19 }

  named-is : (at : ℕ) → named_at line at ≡ cond (identity_stands line at) (Some (named at)) None
  unfolding named_at
  named-is at =
      let value : at + 1 + 1 ≡ at + 2 = omega arith in
      let dotted : at + 2 + 8 ≡ at + 10 = omega arith in
      let extension : at + 10 + 1 ≡ at + 11 = omega arith in
      let end : at + 11 + 8 ≡ at + 19 = omega arith in
      rw (then-digits at 1 _, then-mark (at + 1) dot _, value, then-digits (at + 2) 8 _, dotted, then-mark (at + 10) dot _)
      (rw (extension, then-digits (at + 11) 8 _, end, five _ _ _ _ _ _))

  -- one of two characters
  either-is : (at first second : ℕ) → either_at line at first second
      ≡ cond (either_stands line at first second) (Some (record { value = stands_at line (at + 1) first; next = at + 2 })) None
  unfolding either_at
  either-is at first second =
      let next : at + 1 + 1 ≡ at + 2 = omega arith in
      rw (then-mark at blank _, then-found (at + 1) first _ _, then-mark (at + 1) second _, next)
      (go (stands_at line at blank) (stands_at line (at + 1) first) (stands_at line (at + 1) second))
    where
      taken : Bool → Option (Taken Bool)
      taken value = Some (record { value = value; next = at + 2 })

      go : (a b c : Bool) → cond a (cond b (taken true) (cond c (taken false) None)) None ≡ cond (a && (b || c)) (taken b) None
      go true true c = refl
      go true false true = refl
      go true false false = refl
      go false b c = refl

  -- a LIST from behind the identities that are taken on, and one from its first
  more-say : (places code at : ℕ) (first : Identity) (others : List Identity) → taken_says list_told (list_from places code line (first ∷ others) at)
      ≡ cond (more_stand line places at) (accepted (code ∷ flat_map identity_told (first ∷ others) ++ more_values line places at)) (refused_with BadLine)
  unfolding list_from item_at identity_with
  more-say zero code at first others = refl
  more-say (suc places) code at first others =
      let next : at + 1 + 19 ≡ at + 20 = omega arith in
      let some : eqb (length (first ∷ others)) 0 ≡ false = ne_eqb (length (first ∷ others)) 0 (λ e. omega (arith, e)) in
      rw (some, then-found at comma _ _, named-is (at + 1), behind-if _ _ _, next)
      (go (stands_at line at comma) (identity_stands line (at + 1)) (more-say places code (at + 20) first (others ++ item ∷ [])))
    where
      item : Identity
      item = (named (at + 1)).value

      taken : List Identity
      taken = first ∷ others

      go : (c i : Bool) → taken_says list_told (list_from places code line (taken ++ item ∷ []) (at + 20))
          ≡ cond (more_stand line places (at + 20)) (accepted (code ∷ flat_map identity_told (taken ++ item ∷ []) ++ more_values line places (at + 20)))
          (refused_with BadLine)
          → taken_says list_told (cond c (cond i (list_from places code line (taken ++ item ∷ []) (at + 20)) None)
          (Some (record { value = record { code = code; identity = taken ++ replicate (suc places) nobody }; next = at })))
          ≡ cond (cond c (i && more_stand line places (at + 20)) true)
          (accepted (code ∷ flat_map identity_told taken
          ++ cond c (identity_values line (at + 1) ++ more_values line places (at + 20)) (replicate (4 * suc places) 0 ++ at ∷ [])))
          (refused_with BadLine)
      go true true say = say ∙ rw (told-more taken item (more_values line places (at + 20))) refl
      go true false say = refl
      go false i say = ap (λ (l : List ℕ). accepted (code ∷ l)) (told-left taken (suc places) at)

  identities-say : (code at : ℕ) → taken_says list_told (list_from 10 code line [] at)
      ≡ cond (identities_stand line at) (accepted (code ∷ identities_values line at)) (refused_with BadLine)
  unfolding list_from item_at identity_with
  identities-say code at = rw (found-if (begins line at) _ _ _, named-is at, behind-if _ _ _) (go (begins line at) (identity_stands line at))
    where
      item : Identity
      item = (named at).value

      go : (b i : Bool)
          → taken_says list_told (cond b (cond i (list_from 9 code line (item ∷ []) (at + 19)) None)
          (Some (record { value = record { code = code; identity = replicate 10 nobody }; next = at })))
          ≡ cond (cond b (i && more_stand line 9 (at + 19)) true)
          (accepted (code ∷ cond b (identity_values line at ++ more_values line 9 (at + 19)) (replicate 40 0 ++ at ∷ [])))
          (refused_with BadLine)
      go true true = more-say 9 code (at + 19) item []
      go true false = refl
      go false i = refl

  module _ (at : ℕ) where
    -- a NUMBER: its SSI, and its extension behind the slash
    abbrev number : Taken (ℕ × ℕ)
    number =
        record { value = ((standing line (at + 1) 8).value, (standing line (at + 1 + 8 + 1) 8).value); next = (standing line (at + 1 + 8 + 1) 8).next }

    number-is : number_at line at ≡ cond (number_stands line at) (Some number) None
    unfolding number_at
    number-is =
        rw (then-word at 8 _, then-mark (at + 1 + 8) slash _, then-digits (at + 1 + 8 + 1) 8 _)
        (ap (λ (w : Option (Taken (ℕ × ℕ))). cond (word_stands line at 8) w None)
        (both-if (stands_at line (at + 1 + 8) slash) (digits_stand line (at + 1 + 8 + 1) 8) (Some number))
        ∙ both-if (word_stands line at 8) (stands_at line (at + 1 + 8) slash && digits_stand line (at + 1 + 8 + 1) 8) (Some number))

    pub mark-says : (character : ℕ)
        → place_says (mark_at line at character) ≡ cond (stands_at line at character) (accepted ((at + 1) ∷ [])) (refused_with BadLine)
    unfolding mark_at
    mark-says character = placed (stands_at line at character) (at + 1)

    pub digits-says : (width : ℕ) → taken_says one (digits_at line at width)
        ≡ cond (digits_stand line at width) (accepted ((standing line at width).value ∷ (at + width) ∷ [])) (refused_with BadLine)
    digits-says width = ap (taken_says one) (digits-is at width) ∙ said one (digits_stand line at width) (standing line at width)

    pub word-says : (width : ℕ) → taken_says one (word_at line at width)
        ≡ cond (word_stands line at width) (accepted ((standing line (at + 1) width).value ∷ (at + 1 + width) ∷ [])) (refused_with BadLine)
    word-says width = ap (taken_says one) (word-is at width) ∙ said one (word_stands line at width) (standing line (at + 1) width)

    pub room-says : taken_says one (room_at line at)
        ≡ cond (room_stands line at) (accepted ((standing line (at + 1) 4).value ∷ (at + 1 + 4) ∷ [])) (refused_with BadLine)
    room-says = ap (taken_says one) (room-is at) ∙ said one (room_stands line at) (standing line (at + 1) 4)

    pub number-says : taken_says both (number_at line at)
        ≡ cond (number_stands line at)
        (accepted ((standing line (at + 1) 8).value ∷ (standing line (at + 1 + 8 + 1) 8).value ∷ (at + 1 + 8 + 1 + 8) ∷ []))
        (refused_with BadLine)
    number-says = ap (taken_says both) number-is ∙ said both (number_stands line at) number

    pub group-says : taken_says group_told (group_at line at)
        ≡ cond (group_stands line at)
        (accepted (cond (stands_at line (at + 1 + 8) slash)
        ((standing line (at + 1) 8).value ∷ (standing line (at + 1 + 8 + 1) 8).value ∷ (at + 1 + 8 + 1 + 8) ∷ [])
        ((standing line (at + 1) 8).value ∷ (at + 1 + 8) ∷ [])))
        (refused_with BadLine)
    unfolding group_at
    group-says = rw (then-word at 8 _, number-is) (go (word_stands line at 8) (stands_at line (at + 1 + 8) slash) (digits_stand line (at + 1 + 8 + 1) 8))
      where
        ssi : Taken ℕ
        ssi = standing line (at + 1) 8

        whole : Taken (ℕ × ℕ) → Option (Taken GroupAsked)
        whole taken = Some (record { value = Whole (taken.value.0, taken.value.1); next = taken.next })

        plain : Option (Taken GroupAsked)
        plain = Some (record { value = Plain ssi.value; next = ssi.next })

        go : (w s d : Bool) → taken_says group_told (cond w (cond s (behind (cond (w && (s && d)) (Some number) None) whole) plain) None)
            ≡ cond (cond s (w && (s && d)) w) (accepted (cond s (both number.value ++ number.next ∷ []) (ssi.value ∷ ssi.next ∷ []))) (refused_with BadLine)
        go true true true = refl
        go true true false = refl
        go true false d = refl
        go false true d = refl
        go false false d = refl

    pub choice-says : taken_says choice_told (choice_at line at)
        ≡ cond (either_stands line at letter_y letter_n) (accepted (cond (stands_at line (at + 1) letter_y) 1 0 ∷ (at + 2) ∷ [])) (refused_with BadLine)
    choice-says = ap (taken_says choice_told) (either-is at letter_y letter_n) ∙ said choice_told (either_stands line at letter_y letter_n) _

    pub kind-says : taken_says kind_told (kind_at line at)
        ≡ cond (either_stands line at letter_d letter_a) (accepted (cond (stands_at line (at + 1) letter_d) 1 0 ∷ (at + 2) ∷ [])) (refused_with BadLine)
    kind-says = rw (either-is at letter_d letter_a) (go (either_stands line at letter_d letter_a) (stands_at line (at + 1) letter_d))
      where
        kind : Taken Bool → Option (Taken AnswerKind)
        kind taken = Some (record { value = cond taken.value Deassignment Assignment; next = taken.next })

        go : (a b : Bool) → taken_says kind_told (behind (cond a (Some (record { value = b; next = at + 2 })) None) kind)
            ≡ cond a (accepted (cond b 1 0 ∷ (at + 2) ∷ [])) (refused_with BadLine)
        go true true = refl
        go true false = refl
        go false b = refl

    pub identity-says : taken_says identity_told (identity_at line at)
        ≡ cond (stands_at line at blank && identity_stands line (at + 1)) (accepted (identity_values line (at + 1) ++ (at + 20) ∷ [])) (refused_with BadLine)
    unfolding identity_with
    identity-says =
        let end : at + 1 + 19 ≡ at + 20 = omega arith in
        rw (then-mark at blank _, named-is (at + 1), both-if _ _ _, said identity_told _ (named (at + 1)), end)

    pub series-says : taken_says list_told (series_at line at)
        ≡ cond (series_stands line at) (accepted ((standing line (at + 1) 1).value ∷ identities_values line (at + 3))) (refused_with BadLine)
    unfolding series_at
    series-says =
        let code : at + 1 + 1 ≡ at + 2 = omega arith in
        let from : at + 2 + 1 ≡ at + 3 = omega arith in
        rw (then-word at 1 _, code, then-mark (at + 2) colon _, from, both-if _ _ _)
        (rw code at (go (word_stands line at 1 && stands_at line (at + 2) colon)))
      where
        first : ℕ
        first = (standing line (at + 1) 1).value

        go : (b : Bool) → taken_says list_told (cond b (list_from 10 first line [] (at + 3)) None)
            ≡ cond (b && identities_stand line (at + 3)) (accepted (first ∷ identities_values line (at + 3))) (refused_with BadLine)
        go true = identities-say first (at + 3)
        go false = refl

    pub series-or-none-says : taken_says list_or_none_told (series_or_none_at line at)
        ≡ cond (hyphen_stands line at) (accepted ((at + 2) ∷ [])) (cond (series_stands line at)
        (accepted ((standing line (at + 1) 1).value ∷ identities_values line (at + 3))) (refused_with BadLine))
    unfolding series_or_none_at
    series-or-none-says =
        let next : at + 1 + 1 ≡ at + 2 = omega arith in
        rw (then-mark at blank _, then-found (at + 1) hyphen _ _, next)
        (rw next at (go (stands_at line at blank) (stands_at line (at + 1) hyphen) refl))
      where
        some : Taken Numbers → Option (Taken (Option Numbers))
        some list = Some (record { value = Some list.value; next = list.next })

        none : Option (Taken (Option Numbers))
        none = Some (record { value = None; next = at + 2 })

        whole : (list : Option (Taken Numbers)) → taken_says list_or_none_told (behind list some) ≡ taken_says list_told list
        whole (Some list) = refl
        whole None = refl

        go : (b h : Bool) → stands_at line at blank ≡ b → taken_says list_or_none_told (cond b (cond h none (behind (series_at line at) some)) None)
            ≡ cond (b && h) (accepted ((at + 2) ∷ [])) (cond (series_stands line at)
            (accepted ((standing line (at + 1) 1).value ∷ identities_values line (at + 3))) (refused_with BadLine))
        go true true e = refl
        go true false e = whole (series_at line at) ∙ series-says
        go false h e = rw e refl
