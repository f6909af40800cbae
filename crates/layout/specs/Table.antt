-- The tables of document 000, clause 6.5, element by element, after SS-Type and action type.
-- A table ends with the names of its places: whoever looks at a record takes them from here.
-- Assumes nothing.
use Rattle.layout.specs.declared.DefinePlaces.{DefinePlaces}
use Rattle.layout.specs.declared.DefineAckPlaces.{DefineAckPlaces}
use Rattle.layout.specs.declared.CancelPlaces.{CancelPlaces}
use Rattle.layout.specs.declared.CancelAckPlaces.{CancelAckPlaces}
use Rattle.layout.specs.declared.DeletePlaces.{DeletePlaces}
use Rattle.layout.specs.declared.DeleteAckPlaces.{DeleteAckPlaces}
use Rattle.layout.specs.declared.AssignPlaces.{AssignPlaces}
use Rattle.layout.specs.declared.AssigningAckPlaces.{AssigningAckPlaces}
use Rattle.layout.specs.declared.DeassignPlaces.{DeassignPlaces}
use Rattle.layout.specs.declared.DeassigningAckPlaces.{DeassigningAckPlaces}
use Rattle.layout.specs.Shape.{Yes, No}
use Rattle.layout.specs.Words.{Part, ◌>>=◌, ◌>>◌, table, names, always, ◌is◌, after_is, option_is, p_bit}
use Rattle.layout.specs.Words.{number, yes_no, requested, identity, numbers, letters, optional, neither, ending}

-- ---- table 19
abbrev pub define : Part DefinePlaces
define = table do
  call_related ← yes_no always
  call_identifier ← number 14 (call_related is Yes)
  given ← yes_no always
  neither call_related given
  defined_groups ← numbers (given is Yes)
  o ← number 1 always
  set_reference ← optional o (number 3)
  owners_included ← optional o yes_no
  owners ← numbers (option_is o owners_included Yes)
  acknowledged_call ← optional o yes_no
  broadcast ← optional o yes_no
  name ← optional o letters
  assignment ← optional o yes_no
  affected_users ← numbers (option_is o assignment Yes)
  acknowledgement_requested ← optional o requested
  class_of_usage ← optional o (number 3)
  attachment_lifetime ← optional o (number 2)
  temporary_assignment ← optional o (number 3)
  ending o
  names (record {
    call_related = call_related;
    call_identifier = call_identifier;
    given = given;
    groups = defined_groups;
    o_bit = o;
    set_reference_given = p_bit set_reference;
    set_reference = set_reference;
    owners_included_given = p_bit owners_included;
    owners_included = owners_included;
    owners = owners;
    acknowledged_call_given = p_bit acknowledged_call;
    acknowledged_call = acknowledged_call;
    broadcast_given = p_bit broadcast;
    broadcast = broadcast;
    name_given = p_bit name;
    name = name;
    assignment_given = p_bit assignment;
    assignment = assignment;
    radios = affected_users;
    acknowledgement_given = p_bit acknowledgement_requested;
    acknowledgement = acknowledgement_requested;
    class_given = p_bit class_of_usage;
    class = class_of_usage;
    lifetime_given = p_bit attachment_lifetime;
    lifetime = attachment_lifetime;
    temporary_given = p_bit temporary_assignment;
    temporary = temporary_assignment;
  })

-- ---- table 20
abbrev pub define_ack : Part DefineAckPlaces
define_ack = table do
  call_related ← yes_no always
  call_identifier ← number 14 (call_related is Yes)
  defined_groups ← numbers always
  result_for_definition ← number 4 always
  o ← number 1 always
  ending o
  names (record { call_related = call_related; call_identifier = call_identifier; groups = defined_groups; result = result_for_definition; o_bit = o })

-- ---- table 21
-- the users are there with no P-bit of their own: what they hang on, after the O-bit, is "removed"
abbrev pub delete : Part DeletePlaces
delete = table do
  deleted_groups ← numbers always
  deleted_from_swmi ← yes_no always
  removed_from_users ← yes_no always
  o ← number 1 always
  affected_users ← numbers (after_is o removed_from_users Yes)
  acknowledgement_requested ← optional o requested
  ending o
  names (record {
    groups = deleted_groups;
    deleted = deleted_from_swmi;
    removed = removed_from_users;
    o_bit = o;
    radios = affected_users;
    acknowledgement_given = p_bit acknowledgement_requested;
    acknowledgement = acknowledgement_requested;
  })

-- ---- table 22
abbrev pub delete_ack : Part DeleteAckPlaces
delete_ack = table do
  deleted_groups ← numbers always
  result_for_deletion ← number 4 always
  o ← number 1 always
  ending o
  names (record { groups = deleted_groups; result = result_for_deletion; o_bit = o })

-- ---- table 23
-- the visitor's group number, (V)GSSI, is of type 3: only an M-bit 1 could begin it
abbrev pub assign : Part AssignPlaces
assign = table do
  assigned_groups ← numbers always
  o ← number 1 always
  acknowledged_call ← optional o yes_no
  broadcast ← optional o yes_no
  name ← optional o letters
  acknowledgement_requested ← optional o requested
  class_of_usage ← optional o (number 3)
  attachment_lifetime ← optional o (number 2)
  temporary_assignment ← optional o (number 3)
  visited_extension ← optional o (number 24)
  ending o
  names (record {
    groups = assigned_groups;
    o_bit = o;
    acknowledged_call_given = p_bit acknowledged_call;
    acknowledged_call = acknowledged_call;
    broadcast_given = p_bit broadcast;
    broadcast = broadcast;
    name_given = p_bit name;
    name = name;
    acknowledgement_given = p_bit acknowledgement_requested;
    acknowledgement = acknowledgement_requested;
    class_given = p_bit class_of_usage;
    class = class_of_usage;
    lifetime_given = p_bit attachment_lifetime;
    lifetime = attachment_lifetime;
    temporary_given = p_bit temporary_assignment;
    temporary = temporary_assignment;
    visited_extension_given = p_bit visited_extension;
    visited_extension = visited_extension;
  })

-- ---- table 24
abbrev pub assigning_ack : Part AssigningAckPlaces
assigning_ack = table do
  assigned_groups ← numbers always
  result_for_assignment ← number 2 always
  o ← number 1 always
  attachment ← optional o yes_no
  ending o
  names (record {
    groups = assigned_groups;
    result = result_for_assignment;
    o_bit = o;
    attachment_given = p_bit attachment;
    attachment = attachment;
  })

-- ---- table 25
abbrev pub deassign : Part DeassignPlaces
deassign = table do
  deassigned_groups ← numbers always
  o ← number 1 always
  acknowledgement_requested ← optional o requested
  ending o
  names (record {
    groups = deassigned_groups;
    o_bit = o;
    acknowledgement_given = p_bit acknowledgement_requested;
    acknowledgement = acknowledgement_requested;
  })

-- ---- table 26
-- no element of type 2 or 3, and so no O-bit; the table prints the result as one for definition, of 4 bits
abbrev pub deassigning_ack : Part DeassigningAckPlaces
deassigning_ack = table do
  deassigned_groups ← numbers always
  result_for_definition ← number 4 always
  names (record { groups = deassigned_groups; result = result_for_definition })

-- ---- table 33
abbrev pub cancel : Part CancelPlaces
cancel = table do
  call_related ← yes_no always
  call_identifier ← number 14 (call_related is Yes)
  defined_group ← identity (call_related is No)
  existing_group ← identity always
  names (record { call_related = call_related; call_identifier = call_identifier; defined_group = defined_group; existing_group = existing_group })

-- ---- table 34
abbrev pub cancel_ack : Part CancelAckPlaces
cancel_ack = table do
  call_related ← yes_no always
  call_identifier ← number 14 (call_related is Yes)
  defined_group ← identity (call_related is No)
  result_for_cancellation ← number 1 always
  names (record { call_related = call_related; call_identifier = call_identifier; defined_group = defined_group; result = result_for_cancellation })
