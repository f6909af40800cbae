-- The layout of the lent storage and rooms: how many words a row has, and which word says what. Code has the same names.
--     head      the count of groups, the count of pairs
--     a group   41 words: its key; set reference, acknowledged call, broadcast, class, lifetime, temporary, each one up, 0 where
--               absent; the name's length, 0 where absent, and 16 letters; the owners' count and 16 owners
--     a pair    4 words: group, radio, state, ticks
--     an outgoing order 5 words: kind; radio, group, each SSI and extension; a listed radio 3: SSI, extension, state
use Rattle.std.specs.Prelude.{ℕ}

abbrev pub head_words : ℕ
head_words = 2

abbrev pub group_count : ℕ
group_count = 0

abbrev pub pair_count : ℕ
pair_count = 1

abbrev pub group_words : ℕ
group_words = 41

abbrev pub pair_words : ℕ
pair_words = 4

abbrev pub order_words : ℕ
order_words = 5

abbrev pub max_letters : ℕ
max_letters = 16

abbrev pub max_listed : ℕ
max_listed = 10

abbrev pub key_word : ℕ
key_word = 0

abbrev pub reference_word : ℕ
reference_word = 1

abbrev pub call_word : ℕ
call_word = 2

abbrev pub broadcast_word : ℕ
broadcast_word = 3

abbrev pub class_word : ℕ
class_word = 4

abbrev pub lifetime_word : ℕ
lifetime_word = 5

abbrev pub temporary_word : ℕ
temporary_word = 6

abbrev pub name_length : ℕ
name_length = 7

abbrev pub first_letter : ℕ
first_letter = 8

abbrev pub owner_count : ℕ
owner_count = 24

abbrev pub first_owner : ℕ
first_owner = 25

abbrev pub pair_group : ℕ
pair_group = 0

abbrev pub pair_radio : ℕ
pair_radio = 1

abbrev pub pair_state : ℕ
pair_state = 2

abbrev pub pair_ticks : ℕ
pair_ticks = 3

abbrev pub order_kind : ℕ
order_kind = 0

abbrev pub order_radio : ℕ
order_radio = 1

abbrev pub order_group : ℕ
order_group = 3

abbrev pub entry_radio : ℕ
entry_radio = 0

abbrev pub entry_state : ℕ
entry_state = 2
