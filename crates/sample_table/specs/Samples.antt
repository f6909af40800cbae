-- The samples that are proved, in one table, and what it is that each of them passes: document 01's starred ones, two of each frame of P1,
-- two radios with one SSI (P3), ranges (P5), owners added and handed over (P6), and radios that let go or would not (P7).
-- Assumes nothing.
use Rattle.std.specs.Prelude.{ℕ, zero, suc, ◌-◌, Bool, true, false, ◌&&◌, List, [], ◌∷◌, ◌++◌, map, eqb, length, replicate, Result, Ok, Err}
use Rattle.std.proofs.Math.Option.{Option, none, some}
use Rattle.refusal.specs.Number.{number_of}
use Rattle.refusal.specs.declared.Refusal.{Refusal}
use Rattle.layout.specs.declared.Kind.{Kind}
use Rattle.layout.specs.declared.Kind.TheVariants.{Define, DefineAck, Cancel, CancelAck, Assign, AssigningAck, Deassign, DeassigningAck, Delete, DeleteAck}
use Rattle.layout.specs.declared.Record.{Record}
use Rattle.layout.specs.declared.Refused.{Refused}
use Rattle.layout.specs.Shape.{Yes, No}
use Rattle.layout.specs.Frame.{filled, reading_of, written_of, output_of}
use Rattle.rules.specs.Number.{Numbers, key, plain}
use Rattle.rules.specs.declared.AnswerKind.{AnswerKind}
use Rattle.rules.specs.declared.AnswerKind.TheVariants.{Assignment, Deassignment}
use Rattle.rules.specs.Order.{Step, define, delete, answer, handover, tick}
use Rattle.rules.specs.Recorded.{set_reference, owners_included, assignment, numbers_at, define_of}
use Rattle.rules.specs.Refusals.{reply_number}
use Rattle.rules.specs.Replies.{Entry, Listing, Showing}
use Rattle.rules.specs.History.{History, start, ◌then◌, refusal_in, list_in, show_in}
use Rattle.rules.specs.Ledger.{list, show}
use Rattle.rules.specs.Steps as steps
use Rattle.rules.specs.Placing.{Placing}
use Rattle.rules.specs.Arrival.{by_arrival}
use Rattle.rules.specs.ByNumber.{by_number}
use Rattle.rules.specs.Run.{run}

pub data Sample : Type 0 where
  taken : Kind → ℕ → List ℕ → List ℕ → Sample  -- so many bits in these bytes are this record, which goes on with 0; and it is written so
  refused : Kind → ℕ → List ℕ → ℕ → ℕ → Sample  -- so many bits in these bytes are refused with this number, at this bit
  -- after this history the step gets this number (0: accepted), and the list of group 5 by asker 1, both of this extension, is then this
  ordered : ℕ → History → Step → ℕ → List Entry → Sample
  -- after this history the show of group 5 by this asker, both of extension 5, gets this number, and these owners, of extension 5 too
  shown : History → ℕ → ℕ → List ℕ → Sample

-- ---- records and orders that the table names
-- an identity takes four places: its form, SNA, SSI and extension
abbrev sna : ℕ → List ℕ
sna n = 1 ∷ n ∷ 0 ∷ 0 ∷ []

abbrev pub ssi : ℕ → List ℕ
ssi n = 2 ∷ 0 ∷ n ∷ 0 ∷ []

abbrev extended : ℕ → ℕ → List ℕ
extended n e = 3 ∷ 0 ∷ n ∷ e ∷ []

-- a list: its number type, held one up, and room for ten identities
abbrev pub listed : ℕ → List ℕ → List ℕ
listed type identities = suc type ∷ identities ++ replicate (40 - length identities) 0

abbrev one : List ℕ → List ℕ
one identity = listed 0 identity

-- a DEFINE record up to its O-bit: no call, one group
abbrev group : ℕ → List ℕ
group g = No ∷ 0 ∷ Yes ∷ 0 ∷ one (ssi g)

-- the rest of it, from the O-bit on: assign these radios; acknowledgement requested
abbrev assign : List ℕ → List ℕ
assign radios = 1 ∷ replicate (assignment - set_reference) 0 ++ (1 ∷ Yes ∷ radios)

abbrev requested : List ℕ
requested = 1 ∷ Yes ∷ []

-- asker 1 of extension x defines group 5 and assigns radios, with room for so many outgoing orders
abbrev pub assigns_all : ℕ → List ℕ → ℕ → Step
assigns_all x radios room = define (define_of (plain x 1) (group 5 ++ assign radios ++ requested)) room

-- he assigns radio 9
abbrev assigns : ℕ → Step
assigns x = assigns_all x (one (ssi 9)) 1

-- he defines group 5 and assigns none
abbrev defines : ℕ → Step
defines x = define (define_of (plain x 1) (group 5)) 0

-- an owner of extension 5 defines group 5 and lists owners
abbrev lists_owners : ℕ → List ℕ → Step
lists_owners asker owners = define (define_of (plain 5 asker) (group 5 ++ (1 ∷ replicate (owners_included - set_reference) 0 ++ (1 ∷ Yes ∷ owners)))) 0

-- he hands it over to those listed
abbrev hands_over : ℕ → List ℕ → Step
hands_over asker owners = handover (record {
  asker = plain 5 asker;
  group = record { form = 1; sna = 0; ssi = 5; extension = 0 };
  owners = numbers_at owners 0;
})

-- group 5 with owner 1, 2 added, and then handed over by 2 to 4
abbrev handed : History
handed = start then assigns 5 then lists_owners 1 (one (ssi 2)) then hands_over 2 (one (ssi 4))

-- group 5 with as many owners as may be: 1 to 16
abbrev crowded : History
crowded = start then assigns 5 then lists_owners 1 (listed 1 (ssi 2 ++ ssi 11)) then lists_owners 1 (listed 1 (ssi 10 ++ ssi 16))

-- he deletes group 5, deassign no, and asks for acknowledgement or does not
abbrev deletes : ℕ → Bool → Step
deletes x asks = delete (record {
  asker = plain x 1;
  groups = numbers_at (one (ssi 5)) 0;
  delete = true;
  deassign = false;
  radios = none;
  acknowledgement = asks;
}) 0

-- he assigns radio 9 to group 5, both of extension 5, and requests no acknowledgement
abbrev silently : Step
silently = define (define_of (plain 5 1) (group 5 ++ assign (one (ssi 9)))) 1

-- he deassigns radios from group 5, with so much room, and asks for acknowledgement or does not
abbrev deassigns_in : ℕ → Option Numbers → Bool → Step
deassigns_in room radios asks = delete (record {
  asker = plain 5 1;
  groups = numbers_at (one (ssi 5)) 0;
  delete = false;
  deassign = true;
  radios = radios;
  acknowledgement = asks;
}) room

-- radio 9, with the room for its order
abbrev deassigns : Bool → Step
deassigns = deassigns_in 1 (some (numbers_at (one (ssi 9)) 0))

-- radio 9 of extension y answers for group 5 of extension x
abbrev answers : ℕ → ℕ → AnswerKind → ℕ → Step
answers x y kind result = answer (record { radio = plain y 9; group = plain x 5; kind = kind; result = result })

-- it confirms its assignment
abbrev confirms : ℕ → ℕ → Step
confirms x y = answers x y Assignment 1

-- it answers to its deassignment, both of extension 5
abbrev leaves : ℕ → Step
leaves result = answers 5 5 Deassignment result

-- radio 9 is leaving group 5; it would not
abbrev leaving : History
leaving = start then assigns 5 then deassigns true

abbrev stayed : History
stayed = leaving then leaves 2

-- a radio in a list, with its state
abbrev listed_as : ℕ → ℕ → ℕ → Entry
listed_as x r state = (key (plain x r), state)

abbrev ticks : ℕ → History → History
ticks zero h = h
ticks (suc n) h = ticks n h then tick

-- ---- document 01's orders, with one extension x everywhere, before other samples
abbrev orders : ℕ → List Sample → List Sample
orders x others =
    -- answer after 29 ticks and after 30: both accepted
    ordered x (ticks 29 (start then assigns x)) (confirms x x) 0 (listed_as x 9 2 ∷ [])
    ∷ ordered x (ticks 30 (start then assigns x)) (confirms x x) 0 (listed_as x 9 2 ∷ [])
    -- between them, at its 30th tick, the waiting radio becomes unheard
    ∷ ordered x (ticks 28 (start then assigns x)) tick 0 (listed_as x 9 1 ∷ [])
    ∷ ordered x (ticks 29 (start then assigns x)) tick 0 (listed_as x 9 3 ∷ [])
    -- a second result 1: at once, and after 30 ticks
    ∷ ordered x (start then assigns x then confirms x x) (confirms x x) 14 (listed_as x 9 2 ∷ [])
    ∷ ordered x (ticks 30 (start then assigns x) then confirms x x) (confirms x x) 14 (listed_as x 9 2 ∷ [])
    -- group 5 with radio 9 in it; deleted, deassign no, and defined again, assigning none: empty list
    ∷ ordered x start (assigns x) 0 (listed_as x 9 1 ∷ [])
    ∷ ordered x (start then assigns x then deletes x false) (defines x) 0 []
    ∷ others

-- ---- the table
abbrev pub samples : List Sample
samples =
    -- DEFINE, no call, group SSI 1, no options: 43 bits
    taken Define 43 (0x50 ∷ 0xE0 ∷ 0x40 ∷ 0x00 ∷ 0x00 ∷ 0x40 ∷ []) (group 1)
    -- DEFINE-ACK, no call, SSI 1, result 1: 46 bits
    ∷ taken DefineAck 46 (0x50 ∷ 0xE0 ∷ 0x80 ∷ 0x00 ∷ 0x00 ∷ 0x88 ∷ []) (No ∷ 0 ∷ one (ssi 1) ++ (1 ∷ []))
    -- CANCEL, call identifier 5, existing SNA 7: 35 bits
    ∷ taken Cancel 35 (0x51 ∷ 0x80 ∷ 0x02 ∷ 0x80 ∷ 0xE0 ∷ []) (Yes ∷ 5 ∷ replicate 4 0 ++ sna 7)
    -- CANCEL-ACK, no call, SNA 7, cancelled: 22 bits; with one bit less, and one more
    ∷ taken CancelAck 22 (0x51 ∷ 0xA0 ∷ 0x38 ∷ []) (No ∷ 0 ∷ sna 7 ++ (0 ∷ []))
    ∷ refused CancelAck 21 (0x51 ∷ 0xA0 ∷ 0x38 ∷ []) 1 21
    ∷ refused CancelAck 23 (0x51 ∷ 0xA0 ∷ 0x38 ∷ []) 2 22
    -- no bits; more bits than bytes
    ∷ refused Define 0 (0x50 ∷ 0xE0 ∷ 0x40 ∷ 0x00 ∷ 0x00 ∷ 0x40 ∷ []) 1 0
    ∷ refused Define 49 (0x50 ∷ 0xE0 ∷ 0x40 ∷ 0x00 ∷ 0x00 ∷ 0x40 ∷ []) 1 0
    -- ASSIGN: SNA 7, no options; SSI 5, and SSI 6 with extension 7, acknowledged call, name AB, class 6
    ∷ taken Assign 25 (0x50 ∷ 0x40 ∷ 0x07 ∷ 0x00 ∷ []) (one (sna 7))
    ∷ taken Assign 124 (0x50 ∷ 0x49 ∷ 0x00 ∷ 0x00 ∷ 0x05 ∷ 0x80 ∷ 0x00 ∷ 0x01 ∷ 0x80 ∷ 0x00 ∷ 0x01 ∷ 0xF2 ∷ 0x28 ∷ 0x28 ∷ 0x4E ∷ 0x00 ∷ [])
    (listed 2 (ssi 5 ++ extended 6 7) ++ (1 ∷ 1 ∷ Yes ∷ 0 ∷ 0 ∷ 1 ∷ 2 ∷ 0x41 ∷ 0x42 ∷ replicate 14 0 ++ (0 ∷ 0 ∷ 1 ∷ 6 ∷ [])))
    -- ASSIGNING-ACK: SNA 7, accepted; the range SSI 100 to 109, database overflow, detachment
    ∷ taken AssigningAck 27 (0x50 ∷ 0x40 ∷ 0x07 ∷ 0x00 ∷ []) (one (sna 7))
    ∷ taken AssigningAck 72 (0x50 ∷ 0x45 ∷ 0x00 ∷ 0x00 ∷ 0x64 ∷ 0x40 ∷ 0x00 ∷ 0x1B ∷ 0x7E ∷ []) (listed 1 (ssi 100 ++ ssi 109) ++ (3 ∷ 1 ∷ 1 ∷ No ∷ []))
    -- DEASSIGN: SNA 7; SNA 1, SSI 2, and SSI 3 with extension 4, acknowledgement requested
    ∷ taken Deassign 25 (0x50 ∷ 0x80 ∷ 0x07 ∷ 0x00 ∷ []) (one (sna 7))
    ∷ taken Deassign 104 (0x50 ∷ 0x8C ∷ 0x01 ∷ 0x40 ∷ 0x00 ∷ 0x00 ∷ 0xA0 ∷ 0x00 ∷ 0x00 ∷ 0x30 ∷ 0x00 ∷ 0x00 ∷ 0x4C ∷ [])
    (listed 3 (sna 1 ++ ssi 2 ++ extended 3 4) ++ (1 ∷ 1 ∷ Yes ∷ []))
    -- DEASSIGNING-ACK: SNA 7, result 0; SSI 5 and SSI 6, result 5; with a bit more, as an O-bit would be
    ∷ taken DeassigningAck 28 (0x50 ∷ 0x80 ∷ 0x07 ∷ 0x00 ∷ []) (one (sna 7))
    ∷ taken DeassigningAck 70 (0x50 ∷ 0x89 ∷ 0x00 ∷ 0x00 ∷ 0x05 ∷ 0x40 ∷ 0x00 ∷ 0x01 ∷ 0x94 ∷ []) (listed 2 (ssi 5 ++ ssi 6) ++ (5 ∷ []))
    ∷ refused DeassigningAck 29 (0x50 ∷ 0x80 ∷ 0x07 ∷ 0x00 ∷ []) 2 28
    -- DELETE: SNA 7, deleted, not removed; SSI 5, not deleted, removed from SSI 9, acknowledgement requested; the same with a P-bit before the list
    ∷ taken Delete 27 (0x52 ∷ 0x80 ∷ 0x07 ∷ 0x40 ∷ []) (one (sna 7) ++ (Yes ∷ No ∷ []))
    ∷ taken Delete 76 (0x52 ∷ 0x81 ∷ 0x00 ∷ 0x00 ∷ 0x05 ∷ 0xA0 ∷ 0x80 ∷ 0x00 ∷ 0x04 ∷ 0xC0 ∷ [])
    (one (ssi 5) ++ (No ∷ Yes ∷ 1 ∷ one (ssi 9) ++ (1 ∷ Yes ∷ [])))
    ∷ refused Delete 77 (0x52 ∷ 0x81 ∷ 0x00 ∷ 0x00 ∷ 0x05 ∷ 0xB0 ∷ 0x40 ∷ 0x00 ∷ 0x02 ∷ 0x60 ∷ []) 1 77
    -- DELETE-ACK: SNA 7, result 0; SSI 5, and SSI 6 with extension 7, result 1; O-bit 1 and nothing after it
    ∷ taken DeleteAck 29 (0x52 ∷ 0x80 ∷ 0x07 ∷ 0x00 ∷ []) (one (sna 7))
    ∷ taken DeleteAck 95 (0x52 ∷ 0x89 ∷ 0x00 ∷ 0x00 ∷ 0x05 ∷ 0x80 ∷ 0x00 ∷ 0x01 ∷ 0x80 ∷ 0x00 ∷ 0x01 ∷ 0xC4 ∷ [])
    (listed 2 (ssi 5 ++ extended 6 7) ++ (1 ∷ []))
    ∷ refused DeleteAck 30 (0x52 ∷ 0x80 ∷ 0x07 ∷ 0x08 ∷ []) 6 29
    -- where a frame is bad: cut inside SS-Type, and inside action type though SS-Type is wrong; SS-Type wrong, action type another's
    ∷ refused Define 5 (0x50 ∷ []) 1 0
    ∷ refused Define 9 (0x54 ∷ 0xE0 ∷ []) 1 6
    ∷ refused Define 43 (0x54 ∷ 0xE0 ∷ 0x40 ∷ 0x00 ∷ 0x00 ∷ 0x40 ∷ []) 3 0
    ∷ refused Define 22 (0x51 ∷ 0xA0 ∷ 0x38 ∷ []) 3 6
    -- cut inside the group's SSI; number type 11; type identifier 3; no group and no call
    ∷ refused Define 26 (0x50 ∷ 0xE0 ∷ 0x40 ∷ 0x00 ∷ []) 1 18
    ∷ refused Define 43 (0x50 ∷ 0xEB ∷ 0x40 ∷ 0x00 ∷ 0x00 ∷ 0x40 ∷ []) 4 12
    ∷ refused Define 43 (0x50 ∷ 0xE0 ∷ 0xC0 ∷ 0x00 ∷ 0x00 ∷ 0x40 ∷ []) 4 16
    ∷ refused Define 13 (0x50 ∷ 0xF0 ∷ []) 5 11
    -- acknowledgement requested 1, behind its P-bit; an O-bit and eight P-bits 0, then M-bit 0 and M-bit 1; eight bits too many
    ∷ refused Deassign 28 (0x50 ∷ 0x80 ∷ 0x07 ∷ 0xE0 ∷ []) 4 26
    ∷ refused Assign 34 (0x50 ∷ 0x40 ∷ 0x07 ∷ 0x80 ∷ 0x00 ∷ []) 6 33
    ∷ refused Assign 34 (0x50 ∷ 0x40 ∷ 0x07 ∷ 0x80 ∷ 0x40 ∷ []) 7 33
    ∷ refused CancelAck 30 (0x51 ∷ 0xA0 ∷ 0x38 ∷ 0x00 ∷ []) 2 22
    -- document 01's orders, where all extensions are equal: 0, another, and the largest
    ∷ orders 0 (orders 5 (orders 0xFFFFFF
    -- a neighbour's radio 9 is not ours: its answer is for no pair, and the list holds ours alone; assigned too, it is a second pair
    (ordered 5 (start then assigns 5) (confirms 5 6) 14 (listed_as 5 9 1 ∷ [])
    ∷ ordered 5 (start then assigns 5) (assigns_all 5 (one (extended 9 6)) 1) 0 (listed_as 5 9 1 ∷ listed_as 6 9 1 ∷ [])
    ∷ ordered 5 (start then assigns_all 5 (listed 2 (extended 9 6 ++ ssi 9)) 2) (confirms 5 6) 0 (listed_as 5 9 1 ∷ listed_as 6 9 2 ∷ [])
    -- lists rise by extension, then SSI; an SSI with the asker's own extension is the plain one
    ∷ ordered 5 start (assigns_all 5 (listed 3 (extended 3 6 ++ ssi 9 ++ extended 4 5)) 3) 0 (listed_as 5 4 1 ∷ listed_as 5 9 1 ∷ listed_as 6 3 1 ∷ [])
    ∷ ordered 5 start (assigns_all 5 (listed 2 (extended 9 5 ++ ssi 9)) 1) 0 (listed_as 5 9 1 ∷ [])
    -- ranges: both ends count; first above last; an SNA as an end
    ∷ ordered 5 start (assigns_all 5 (listed 1 (ssi 7 ++ extended 9 5)) 3) 0 (listed_as 5 7 1 ∷ listed_as 5 8 1 ∷ listed_as 5 9 1 ∷ [])
    ∷ ordered 5 (start then assigns 5) (assigns_all 5 (listed 1 (ssi 9 ++ ssi 8)) 1) 19 (listed_as 5 9 1 ∷ [])
    ∷ ordered 5 (start then assigns 5) (assigns_all 5 (listed 1 (sna 8 ++ ssi 9)) 2) 11 (listed_as 5 9 1 ∷ [])
    -- a deputy is added, and the creator keeps the group
    ∷ shown (start then assigns 5 then lists_owners 1 (one (ssi 2))) 1 0 (1 ∷ 2 ∷ [])
    -- the deputy hands it over: the creator is out, he and the one listed own it
    ∷ shown handed 1 13 []
    ∷ shown handed 4 0 (2 ∷ 4 ∷ [])
    -- who does not own it hands nothing over, and lists no owner
    ∷ ordered 5 (start then assigns 5) (hands_over 2 (one (ssi 2))) 13 (listed_as 5 9 1 ∷ [])
    ∷ ordered 5 (start then assigns 5) (lists_owners 2 (one (ssi 2))) 13 (listed_as 5 9 1 ∷ [])
    -- an owner who is listed already changes nothing; a seventeenth is refused, and by a handover to himself the asker is left alone
    ∷ ordered 5 crowded (lists_owners 16 (one (ssi 1))) 0 (listed_as 5 9 1 ∷ [])
    ∷ ordered 5 crowded (lists_owners 16 (one (ssi 17))) 21 (listed_as 5 9 1 ∷ [])
    ∷ shown (crowded then hands_over 16 (one (ssi 16))) 16 0 (16 ∷ [])
    -- a deassign that asks for acknowledgement: the radio is leaving, and unheard at the 30th tick
    ∷ ordered 5 (start then assigns 5) (deassigns true) 0 (listed_as 5 9 4 ∷ [])
    ∷ ordered 5 (ticks 28 leaving) tick 0 (listed_as 5 9 4 ∷ [])
    ∷ ordered 5 (ticks 29 leaving) tick 0 (listed_as 5 9 6 ∷ [])
    -- its answer after 29 ticks and after 30: it has let go, or would not
    ∷ ordered 5 (ticks 29 leaving) (leaves 1) 0 []
    ∷ ordered 5 (ticks 30 leaving) (leaves 1) 0 []
    ∷ ordered 5 (ticks 29 leaving) (leaves 3) 0 (listed_as 5 9 5 ∷ [])
    ∷ ordered 5 (ticks 30 leaving) (leaves 4) 0 (listed_as 5 9 5 ∷ [])
    -- an answer of the wrong kind
    ∷ ordered 5 leaving (confirms 5 5) 14 (listed_as 5 9 4 ∷ [])
    ∷ ordered 5 (ticks 30 leaving) (confirms 5 5) 14 (listed_as 5 9 6 ∷ [])
    ∷ ordered 5 (start then assigns 5) (leaves 1) 14 (listed_as 5 9 1 ∷ [])
    ∷ ordered 5 (ticks 30 (start then assigns 5)) (leaves 1) 14 (listed_as 5 9 3 ∷ [])
    -- a refused leave: a second answer, either kind; no tick moves it; assigned again, and confirmed
    ∷ ordered 5 stayed (leaves 1) 14 (listed_as 5 9 5 ∷ [])
    ∷ ordered 5 stayed (confirms 5 5) 14 (listed_as 5 9 5 ∷ [])
    ∷ ordered 5 (ticks 29 stayed) tick 0 (listed_as 5 9 5 ∷ [])
    ∷ ordered 5 stayed (assigns 5) 0 (listed_as 5 9 1 ∷ [])
    ∷ ordered 5 (stayed then assigns 5) (leaves 1) 14 (listed_as 5 9 1 ∷ [])
    ∷ ordered 5 (stayed then assigns 5) (confirms 5 5) 0 (listed_as 5 9 2 ∷ [])
    -- a further deassign: from 0 ticks again, from 5 too; and at once where it asks for no acknowledgement
    ∷ ordered 5 (ticks 28 (ticks 29 leaving then deassigns true)) tick 0 (listed_as 5 9 4 ∷ [])
    ∷ ordered 5 stayed (deassigns true) 0 (listed_as 5 9 4 ∷ [])
    ∷ ordered 5 leaving (deassigns false) 0 []
    ∷ ordered 5 stayed (deassigns false) 0 []
    -- one who would not leave is a member, and is sent an order again; all members are deassigned where none are listed
    ∷ ordered 5 stayed (deassigns_in 0 none true) 17 (listed_as 5 9 5 ∷ [])
    ∷ ordered 5 (start then assigns 5) (deassigns_in 0 none true) 17 (listed_as 5 9 1 ∷ [])
    ∷ ordered 5 (start then assigns 5) (deassigns_in 1 none true) 0 (listed_as 5 9 4 ∷ [])
    ∷ ordered 5 (start then assigns 5) (deassigns_in 1 none false) 0 []
    -- no other state is under T1 or open for an answer: none wanted, confirmed, and unheard once it is
    ∷ ordered 5 start silently 0 (listed_as 5 9 0 ∷ [])
    ∷ ordered 5 (ticks 29 (start then silently)) tick 0 (listed_as 5 9 0 ∷ [])
    ∷ ordered 5 (start then silently) (confirms 5 5) 14 (listed_as 5 9 0 ∷ [])
    ∷ ordered 5 (start then silently) (leaves 1) 14 (listed_as 5 9 0 ∷ [])
    ∷ ordered 5 (ticks 29 (start then assigns 5 then confirms 5 5)) tick 0 (listed_as 5 9 2 ∷ [])
    ∷ ordered 5 (start then assigns 5 then confirms 5 5) (leaves 1) 14 (listed_as 5 9 2 ∷ [])
    ∷ ordered 5 (ticks 59 leaving) tick 0 (listed_as 5 9 6 ∷ [])
    -- no pair, no group; an assignment that the radio declines
    ∷ ordered 5 (leaving then leaves 1) (leaves 1) 14 []
    ∷ ordered 5 (start then assigns 5) (answers 6 5 Assignment 1) 12 (listed_as 5 9 1 ∷ [])
    ∷ ordered 5 (start then assigns 5) (answers 5 5 Assignment 2) 0 []
    ∷ ordered 5 (start then assigns 5) (answers 5 5 Assignment 4) 0 []
    -- with delete yes the acknowledgement asked for plays no part
    ∷ ordered 5 (leaving then deletes 5 true) (defines 5) 0 []
    ∷ [])))

-- ---- what they pass
abbrev same : List ℕ → List ℕ → Bool
same [] [] = true
same [] (y ∷ ys) = false
same (x ∷ xs) [] = false
same (x ∷ xs) (y ∷ ys) = eqb x y && same xs ys

-- this record is read, the rest of its places 0
abbrev reads : List ℕ → Result Record Refused → Bool
reads s (Ok r) = same r.place (filled s)
reads s (Err e) = false

abbrev refuses_with : ℕ → ℕ → Result Record Refused → Bool
refuses_with n bit (Ok r) = false
refuses_with n bit (Err e) = eqb (number_of e.refusal) n && eqb e.bit bit

abbrev writes : ℕ → Result ℕ Refusal → Bool
writes n (Ok m) = eqb m n
writes n (Err r) = false

abbrev same_entries : List Entry → List Entry → Bool
same_entries [] [] = true
same_entries [] (y ∷ ys) = false
same_entries (x ∷ xs) [] = false
same_entries (x ∷ xs) (y ∷ ys) = eqb x.0 y.0 && eqb x.1 y.1 && same_entries xs ys

-- an accepted list with these entries
abbrev lists : List Entry → Listing → Bool
lists entries reply = eqb (reply_number reply.refused) 0 && same_entries reply.entries entries

abbrev on_ledger : Placing → ℕ → History → Step → ℕ → List Entry → Bool
on_ledger placing x before next n entries =
    eqb (reply_number (steps.refused placing (run placing before) next)) n
    && lists entries (list (run placing (before then next)) (plain x 1) (plain x 5) (length entries))

-- this number and these owners of extension 5
abbrev shows : ℕ → List ℕ → Showing → Bool
shows n owners reply = eqb (reply_number reply.refused) n && same reply.owners (map (λ (a : ℕ). key (plain 5 a)) owners)

-- the reader's answer, and the writer's into that many zero bytes
unfoldable pub passes : Sample → Bool
passes (taken kind count bytes s) =
    let size = length bytes in
    reads s (reading_of kind bytes count)
    && writes count (written_of kind s size 0)
    && same (output_of kind s (replicate size 0) 0) bytes
passes (refused kind count bytes n bit) = refuses_with n bit (reading_of kind bytes count)
-- by what the history means, and on the abstract ledger after it, by arrival as by number
passes (ordered x before next n entries) =
    eqb (reply_number (refusal_in before next)) n
    && lists entries (list_in (before then next) (plain x 1) (plain x 5) (length entries))
    && on_ledger by_arrival x before next n entries
    && on_ledger by_number x before next n entries
passes (shown h asker n owners) =
    shows n owners (show_in h (plain 5 asker) (plain 5 5))
    && shows n owners (show (run by_arrival h) (plain 5 asker) (plain 5 5))
    && shows n owners (show (run by_number h) (plain 5 asker) (plain 5 5))
