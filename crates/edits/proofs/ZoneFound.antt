-- What is found in a zone that was read: what its tests say of the entries holds of its owned pieces; and where no two free fragments
-- touch, it is the drawing of those pieces.
use mathlib.Core.Path.{◌≡◌, sym, ap, ap₂, ◌∙◌, subst}
use mathlib.Core.Bool.{true, false, not, ◌&&◌, ◌||◌}
use mathlib.Core.List.{List, map}
use mathlib.Core.Option.{some}
use Prim.Native.Nat.{ℕ, suc, ◌+◌, ◌-◌, ◌/◌}
use native.Mathlib.Omega.{arith}
use lib.Dec.{eqb}
use lib.ListN.{length, get_or}
use Rattle.bits.specs.Bits.{Bytes}
use Rattle.bits.proofs.Tests.{both}
use Rattle.checks.specs.Words.{zone_check}
use Rattle.geometry.specs.declared.Geometry.{Geometry}
use Rattle.geometry.specs.Accepted.{AcceptedGeometry}
use Rattle.geometry.specs.Places.{first_bit, end_bit, zone_from, zone_end, id_from}
use Rattle.model.specs.Fragments.{Fragment, fragment_bits, Formed, fragments_in}
use Rattle.model.specs.Chain.{Entry, onward, follow, none_touch}
use Rattle.model.specs.Blocks.{link_in, alloc_bits}
use Rattle.model.specs.Pieces.{owned_of, piece_to_disc}
use Rattle.model.specs.Drawing.{drawn_fragments, drawn_entries, follow_all}
use Rattle.model.specs.Answer.{answered}
use Rattle.model.specs.Check.{every, id_fits, end_fits, first_owned, zone_read}
use Rattle.model.proofs.Options.{some_some}
use Rattle.model.proofs.FragmentsRead.{written_cut}
use Rattle.model.proofs.Followed.{total}
use Rattle.model.proofs.ChainDrawn.{Lies, Drawn, drawn_follow, follow_drawn, follow_lies}
use Rattle.model.proofs.ZoneDrawn.{long_fit, length_frags}
use Rattle.model.proofs.ZoneTests.{ZoneTests, zone_tests}
use Rattle.edits.specs.Holes.{apart}
use Rattle.edits.proofs.Kept.{All}
use Rattle.edits.proofs.Gaps.{is_long}
use Rattle.edits.proofs.Returned.{is_whole}
use Rattle.edits.proofs.BlockBits.{BitsInBlock, alloc_length}
use Rattle.edits.proofs.BlockWritten.{BlockRead}
use Rattle.edits.proofs.ZonePlaces.{zone_of_piece, zone_from_law, zone_end_law, zone_low, zone_bits, disc_zone}
use Rattle.edits.proofs.Clusters.{first_whole, disc_whole}
use Rattle.edits.proofs.ObjectRules.{one_from_end, two_first}
use Rattle.edits.proofs.PiecesTested.{EachLong, long_of, long_pieces, whole_pieces, apart_pieces, ids_of, one_of_ends, two_of_first, apart_disc}

-- fragments that were cut and followed are a drawing's
pub record DrawnZone (idlen at end : ℕ) (fs : List Fragment) (es : List Entry) : Type 0 where
  pub fragments : fs ≡ drawn_fragments at end (owned_of es)
  pub answered : es ≡ drawn_entries at end (owned_of es)
  pub formed : Formed idlen fs
  pub lie : Lies at end (owned_of es)

module _ (idlen at end : ℕ) (b : List ℕ) (y : BitsInBlock idlen at end b) (fs : List Fragment) (es : List Entry)
    (c : fragments_in idlen (alloc_bits at end b) ≡ some fs) (f : follow at (onward 8 (link_in b)) fs ≡ some es) where
  pub cut_formed : (alloc_bits at end b ≡ fragment_bits idlen fs) × Formed idlen fs
  cut_formed =
      let e : suc (idlen - 1) ≡ idlen = omega arith in
      subst (λ (n : ℕ). (alloc_bits at end b ≡ fragment_bits n fs) × Formed n fs) e (written_cut (idlen - 1) (alloc_bits at end b) fs c)

  pub cut_whole : at + total fs ≡ end
  cut_whole = omega (arith, alloc_length idlen at end b y, sym (length_frags idlen fs cut_formed.1), sym (ap length cut_formed.0))

  pub drawn_zone : none_touch false es ≡ true → DrawnZone idlen at end fs es
  drawn_zone p =
      let long = long_fit idlen fs cut_formed.1 in
      let d : Drawn at (onward 8 (link_in b)) end fs es = drawn_follow at (onward 8 (link_in b)) end false fs es (omega arith) long cut_whole f p in
      let lie = follow_lies at (onward 8 (link_in b)) end fs es long cut_whole f in
      record {
        fragments = d.0;
        answered = some_some (sym f ∙ ap₂ (follow at) d.1 d.0 ∙ follow_drawn at end (owned_of es) (omega arith) lie);
        formed = cut_formed.1;
        lie = lie;
      }

-- the owned pieces of a zone that was read, whether or not free fragments touch: by block bits, and by disc bits
pub record ZonePieces (g : Geometry) (z : ℕ) (es : List Entry) : Type 0 where
  pub lie : Lies (first_bit z) (end_bit g) (owned_of es)
  pub zoned : All (λ p. eqb (zone_of_piece g p) z) (map (piece_to_disc g z) (owned_of es))
  pub long : All (is_long g.shortest) (owned_of es)
  pub ids : All (λ p. id_from 1 g p.owner) (owned_of es)
  pub apart_in : apart g.shortest (zone_from g z) (zone_end g z) (map (piece_to_disc g z) (owned_of es)) ≡ true
  pub one : one_from_end g.end.0 (zone_from g z) (zone_end g z) (map (piece_to_disc g z) (owned_of es)) ≡ true
  pub two : eqb z (g.zones / 2) ≡ true → two_first (zone_from g z) (map (piece_to_disc g z) (owned_of es)) ≡ true
  pub clusters : All (is_whole g.cluster) (map (piece_to_disc g z) (owned_of es))

-- a zone in which none touch: its block, and its pieces
pub record ZoneFound (g : Geometry) (z : ℕ) (b : List ℕ) (es : List Entry) : Type 0 where
  pub block : BlockRead g.idlen (first_bit z) (end_bit g) b es
  pub lie : Lies (first_bit z) (end_bit g) (owned_of es)

module _ (g : Geometry) (ok : AcceptedGeometry g) (z : ℕ) (b : List ℕ) (es : List Entry) (size : length b ≡ g.sector) (read : zone_read g z b ≡ answered es) where
  abbrev at : ℕ
  at = first_bit z

  abbrev end : ℕ
  end = end_bit g

  tests : ZoneTests g z b es
  tests = zone_tests g z b es read

  abbrev first : ℕ
  first = onward 8 (link_in b)

  formed : Formed g.idlen tests.fragments
  formed = (cut_formed g.idlen at end b (zone_bits g ok z b size) tests.fragments es tests.cut tests.chain).1

  filled : first_bit z + total tests.fragments ≡ end_bit g
  filled = cut_whole g.idlen at end b (zone_bits g ok z b size) tests.fragments es tests.cut tests.chain

  lies : Lies (first_bit z) (end_bit g) (owned_of es)
  lies = follow_lies at first end tests.fragments es (long_fit g.idlen tests.fragments formed) filled tests.chain

  each_long : EachLong g.shortest tests.fragments
  each_long = long_of g ok tests.fragments formed tests.clusters

  ids_and_ends : (every (id_fits g) es ≡ true) × (every (end_fits g z) es ≡ true)
  ids_and_ends = both _ _ (both (every (id_fits g) es && every (end_fits g z) es) _ tests.owners).0

  two_rule : not (eqb z (g.zones / 2)) || first_owned 2 es ≡ true
  two_rule = (both (every (id_fits g) es && every (end_fits g z) es) _ tests.owners).1

  pub pieces_read : ZonePieces g z es
  pieces_read = record {
    lie = lies;
    zoned = disc_zone g ok z at (owned_of es) (omega arith) lies;
    long = long_pieces at first tests.fragments es tests.chain g.shortest each_long;
    ids = ids_of at first tests.fragments es tests.chain g ids_and_ends.0;
    apart_in = apart_disc g z g.shortest at end (zone_from g z) (zone_end g z) (owned_of es) (zone_low g ok z) (zone_from_law g ok z) (zone_end_law g ok z) lies
        (apart_pieces at first tests.fragments es tests.chain g.shortest end filled each_long);
    one = one_of_ends at first tests.fragments es tests.chain g z end (zone_from g z) (zone_end g z) (zone_low g ok z) (zone_from_law g ok z) (zone_end_law g ok z) filled ids_and_ends.1;
    two = λ t. two_of_first at first tests.fragments es tests.chain g z (zone_from g z) (zone_low g ok z) (zone_from_law g ok z) (simp t at two_rule);
    clusters = disc_whole g ok z (owned_of es) (whole_pieces at first tests.fragments es tests.chain g.cluster (first_whole g ok z) tests.clusters);
  }

  pub zone_found : Bytes b → get_or b 0 0 ≡ zone_check b → none_touch false es ≡ true → ZoneFound g z b es
  zone_found bytes check none_touch_law = record {
    block = record { bits = zone_bits g ok z b size; bytes = bytes; check = check; top_bit = tests.top_bit; read = ap (follow_all at (link_in b)) tests.cut ∙ tests.chain; none_touch_law = none_touch_law };
    lie = lies;
  }
