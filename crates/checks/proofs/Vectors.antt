-- The zone checks of document 01's maps, computed both ways.
use mathlib.Core.Path.{◌≡◌, refl}
use Rattle.checks.specs.Words.{words_of, total, zone_check}
use Rattle.checks.specs.Columns.{columns, column_check}
use Rattle.checks.specs.Maps.{map_a, map_b}

pub zone_a : zone_check map_a ≡ 0xC7
unfolding zone_check words_of total
zone_a = refl

pub zone_b : zone_check map_b ≡ 0x28
unfolding zone_check words_of total
zone_b = refl

pub column_a : column_check map_a ≡ 0xC7
unfolding column_check columns
column_a = refl

pub column_b : column_check map_b ≡ 0x28
unfolding column_check columns
column_b = refl
