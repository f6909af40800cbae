-- Numbers as an order carries them: identities and lists of identities; and the key by which the ledger knows a number. What a list names
-- is in Named.
use Rattle.std.specs.Prelude.{ℕ, ◌+◌, ◌*◌, ◌/◌, ◌%◌, ◌^◌, Bool, false, cond, ◌&&◌, ◌||◌, List, eqb, ltb, leb, take}
use Rattle.std.proofs.Math.Option.{Option, none, some}
use Rattle.rules.specs.Lists.{any}

-- a number as it is handed over; the extension is country and network code
pub record Number : Type 0 where
  pub ssi : ℕ
  pub extension : ℕ

-- type identifier: 0 SNA, 1 SSI, 2 SSI and extension; 3 is reserved
pub record Identity : Type 0 where
  pub form : ℕ
  pub sna : ℕ
  pub ssi : ℕ
  pub extension : ℕ

-- number type: 0 one number, 1 a range given by 2, 2 to 10 that many; then the places for the identities
pub record Numbers : Type 0 where
  pub code : ℕ
  pub places : List Identity

abbrev pub count : ℕ → ℕ
count code = cond (eqb code 0) 1 (cond (eqb code 1) 2 code)

-- the identities that the number type counts; the places after them are not looked at
abbrev pub used : Numbers → List Identity
used n = take (count n.code) n.places

-- ---- keys: "the ledger shall hold SSI and extension for every group, radio and owner" ----

-- a number as the ledger knows it
unfoldable pub key : Number → ℕ
key n = n.extension * 2 ^ 24 + n.ssi

-- the number of a key
unfoldable pub ssi_of : ℕ → ℕ
ssi_of k = k % 2 ^ 24

unfoldable pub extension_of : ℕ → ℕ
extension_of k = k / 2 ^ 24 % 2 ^ 24

abbrev pub number_at : ℕ → Number
number_at k = record { ssi = ssi_of k; extension = extension_of k }

-- "\"Same number\" .. means both parts"
abbrev pub same_number : Number → Number → Bool
same_number a b = eqb a.ssi b.ssi && eqb a.extension b.extension

-- "by extension, then SSI"
abbrev pub below_number : Number → Number → Bool
below_number a b = ltb a.extension b.extension || (eqb a.extension b.extension && ltb a.ssi b.ssi)

-- ---- identities; `home` is the asker's extension ----

-- "plain SSI takes the asker's"
abbrev pub plain : ℕ → ℕ → Number
plain home ssi = record { ssi = ssi; extension = home }

-- the number that an identity names
abbrev pub identified : ℕ → Identity → Number
identified home i = cond (eqb i.form 2) (record { ssi = i.ssi; extension = i.extension }) (plain home i.ssi)

-- and its key
abbrev pub identity_key : ℕ → Identity → ℕ
identity_key home i = key (identified home i)

-- ---- what is out of range ----

-- a part of a number, above 24 bits
abbrev pub wide : ℕ → Bool
wide n = leb (2 ^ 24) n

-- a number handed over, with a part above 24 bits
abbrev pub wide_number : Number → Bool
wide_number n = wide n.ssi || wide n.extension

-- the keys of all numbers of 24 bits a part are below it
abbrev pub key_limit : ℕ
key_limit = 2 ^ 48

-- a key that stands, out of range
abbrev pub wide_key : ℕ → Bool
wide_key k = leb key_limit k

-- the reserved form, or an SSI or an extension in use above 24 bits
abbrev pub bad_identity : Identity → Bool
bad_identity i = ltb 2 i.form || ((ltb 0 i.form && wide i.ssi) || (eqb i.form 2 && wide i.extension))

-- a reserved number type, or a bad identity in use
abbrev pub bad_list : Option Numbers → Bool
bad_list none = false
bad_list (some n) = ltb 10 n.code || any bad_identity (used n)

-- a form not taken: an SNA
abbrev pub short : Identity → Bool
short i = eqb i.form 0

abbrev pub untaken : Option Numbers → Bool
untaken none = false
untaken (some n) = any short (used n)
