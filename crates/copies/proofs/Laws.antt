-- The laws of specs/Laws.
use Rattle.copies.specs.Laws.{CopyLaws}
use Rattle.copies.proofs.SameBytes.{equal_exactly}
use Rattle.copies.proofs.Choice.{choice_by_rules, part_accepted, part_empty, first_left_alone, second_accepted, second_handed_back}
use Rattle.copies.proofs.Over.{copy_by_table, after_copy}
use Rattle.copies.proofs.Middle.{addresses_by_table, first_at_object_2, first_on_disc, second_follows}

pub copy_laws : CopyLaws
copy_laws = record {
  choice_by_rules = choice_by_rules;
  copy_by_table = copy_by_table;
  addresses_by_table = addresses_by_table;
  equal_exactly = equal_exactly;
  part_accepted = part_accepted;
  part_empty = part_empty;
  first_left_alone = first_left_alone;
  second_left_alone = λ m other w. (second_accepted m other w, second_handed_back m other w);
  after_copy = after_copy;
  first_at_object_2 = first_at_object_2;
  first_on_disc = first_on_disc;
  second_follows = second_follows;
}
