-- The laws: from Agree and Changes, the others by computing.
use mathlib.Core.Path.{refl}
use Rattle.checks.specs.Words.{zone_check}
use Rattle.checks.proofs.Agree.{columns_are_words}
use Rattle.checks.proofs.Changes.{sum_kept, even_number, first_of_odd, rest_of_odd, change_by_place}
use Rattle.checks.proofs.Vectors.{zone_a, zone_b, column_a, column_b}
use Rattle.checks.proofs.check_laws.Goals as goal

pub returns : goal.returns
unfolding zone_check
returns c =
    record {
      columns_are_words = columns_are_words;
      words_of_a = zone_a;
      words_of_b = zone_b;
      columns_of_a = column_a;
      columns_of_b = column_b;
      own_byte_free = λ a b rest. refl;
      sum_kept = sum_kept;
      one_zone = λ i. refl;
      even_number = even_number;
      first_of_odd = first_of_odd;
      rest_of_odd = rest_of_odd;
      change_by_place = change_by_place;
      two_zones = refl;
      five_zones = refl;
    }
