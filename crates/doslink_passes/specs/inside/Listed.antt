-- The order that is asked for, as it is held.
use Rattle.std.specs.Prelude.{List, []}
use Rattle.doslink_words.specs.Said.{SaidItem, SaidOrder, Meeting, Dosseg, Listed, order_of}
use Rattle.doslink_passes.specs.declared.ordering.Asked.{Asked}
use Rattle.doslink_passes.specs.Orders.{Asking}

-- the items that are listed
abbrev pub listed : SaidOrder → List SaidItem
listed Meeting = []
listed Dosseg = []
listed (Listed items) = items

-- what asks for the order
abbrev pub asking_said : Asked → Asking
asking_said a = record {
  names = a.names;
  marks = a.marks;
  dosseg = a.dosseg;
  order = order_of a.order.now;
  null_bytes = a.null_bytes;
}
