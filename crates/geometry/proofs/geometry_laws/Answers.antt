-- The laws, each from the file that proves it.
use mathlib.Core.Path.{refl}
use Rattle.geometry.proofs.Reasons.{numbered, reasoned}
use Rattle.geometry.proofs.Rules.{test_is_rules}
use Rattle.geometry.proofs.Numbers.{accepted, cluster_parts, cluster_else, floppy, divisor, drives, most_zones_law, plus_discs}
use Rattle.geometry.proofs.DiscBits.{block_of_disc, disc_of_block, zone_of_disc, on_the_map, zone_starts, zone_ends}
use Rattle.geometry.proofs.Starts.{start_by_ids, start_in_range, object_690}
use Rattle.geometry.proofs.Editions.{dirty, version_at, zones_at, version_0, accepted_0, other_version, high_size}
use Rattle.geometry.proofs.geometry_laws.Goals as goal

pub returns : goal.returns
returns c =
    record {
      numbered = numbered;
      reasoned = reasoned;
      test_is_rules = test_is_rules;
      accepted = accepted;
      block_of_disc = block_of_disc;
      disc_of_block = disc_of_block;
      zone_of_disc = zone_of_disc;
      on_the_map = on_the_map;
      zone_starts = zone_starts;
      zone_ends = zone_ends;
      cluster_parts = cluster_parts;
      cluster_else = cluster_else;
      start_by_ids = start_by_ids;
      start_of_2 = λ g. refl;
      start_in_range = start_in_range;
      floppy = floppy;
      divisor = divisor;
      object_690 = object_690;
      drives = drives;
      dirty = dirty;
      version_at = version_at;
      zones_at = zones_at;
      version_0 = version_0;
      accepted_0 = accepted_0;
      other_version = other_version;
      most_zones_law = most_zones_law;
      plus_discs = plus_discs;
      high_size = high_size;
    }
