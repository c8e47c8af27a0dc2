-- What remains for a walk, one fragment at a time: from the first fragment of a zone on it is that zone's lines and the next zones', at a
-- fragment it starts with that fragment's line, at the zone's end it is what remains from the next zone on, and past the last zone nothing.
use mathlib.Core.Path.{◌≡◌, refl, sym, ap, ◌∙◌, subst⁻¹}
use mathlib.Core.Bool.{Bool, true, false, cond}
use mathlib.Core.List.{List, [], ◌∷◌, ◌++◌, map}
use mathlib.Core.Option.{Option, some}
use Prim.Native.Nat.{ℕ, suc, ◌+◌, ◌-◌, ◌*◌, ◌<◌, ◌≤◌}
use native.Mathlib.Omega.{arith}
use lib.Dec.{eqb, ltb}
use borrow.Author.Tests.{ltb-true, ltb-false}
use lib.ListN.{length}
use Rattle.bits.specs.Bits.{byte_bits}
use Rattle.bits.proofs.Bytes.{length_byte_bits}
use Rattle.bits.proofs.Tests.{by_test}
use Rattle.geometry.specs.declared.Geometry.{Geometry}
use Rattle.geometry.specs.Places.{first_bit, end_bit, disc_bit}
use Rattle.geometry.proofs.DiscBits.{first_low}
use Rattle.model.specs.Chain.{Entry, free, owned, entry, onward}
use Rattle.model.specs.Blocks.{link_in}
use Rattle.model.specs.Rules.{zone_block}
use Rattle.model.proofs.ZoneTests.{zone_tests}
use Rattle.fragment.specs.Found.{next_after}
use Rattle.model.specs.Fragments.{fragments_in}
use Rattle.fragment.specs.Reading.{follow_from, id_at, length_at, read_from, CanRead, entries_some, holder_at}
use Rattle.fragment.proofs.Step.{fragment_of}
use Rattle.fragment.proofs.Opened.{Opened, closes, opened, read_on, none_read}
use Rattle.zone.specs.Lines.{entries_in, holder_number}
use Rattle.zone.proofs.AllocBits.{first_high, ZoneBlock, alloc_all}
use Rattle.map.specs.Accepted.{ReadableFrom}
use Rattle.walk.specs.declared.Walk.{Walk}
use Rattle.walk.specs.declared.Line.{Line}
use Rattle.walk.specs.declared.Step.{Step}
use Rattle.walk.specs.SoundZone.{SoundZone}
use Rattle.walk.specs.Remaining.{line_of, lines_in, lines_from, lines_here, lines_on, remaining, Passing, Stands, Starts, Advances, Settles}
use Rattle.walk.proofs.ZonesRead.{zone_sound}

abbrev pub walk : ℕ → ℕ → ℕ → Walk
walk z at chain = record { zone = z; at = record { 0 = at }; chain = record { 0 = chain } }

-- a list of two zones and more
module _ (m : List ℕ) (g : Geometry) where
  pub none_remain : (to : ℕ) (w : Walk) → to ≤ w.zone → remaining m g to w ≡ []
  unfolding remaining
  none_remain to w h = let e : to - w.zone ≡ 0 = omega arith in ap (lines_on g m w) e

  here_remain : (to : ℕ) (w : Walk) → w.zone < to → remaining m g to w ≡ lines_here g m w ++ lines_from g m (suc w.zone) (to - suc w.zone)
  unfolding remaining
  here_remain to w h = let e : to - w.zone ≡ suc (to - suc w.zone) = omega arith in ap (lines_on g m w) e

  from_none : (to z : ℕ) → to ≤ z → lines_from g m z (to - z) ≡ []
  from_none to z h = let e : to - z ≡ 0 = omega arith in ap (lines_from g m z) e

  from_some : (to z : ℕ) → z < to → lines_from g m z (to - z) ≡ lines_in g m z ++ lines_from g m (suc z) (to - suc z)
  from_some to z h = let e : to - z ≡ suc (to - suc z) = omega arith in ap (lines_from g m z) e

-- the first fragment of a zone
module _ {g : Geometry} {z : ℕ} {b : List ℕ} (s : SoundZone g z b) where
  block : ZoneBlock g b (end_bit g)
  block = record { numbers = s.numbers; sized = s.sized; ends = refl }

  pub zone_read : read_from g.idlen (first_bit z) (end_bit g) (onward 8 (link_in b)) (byte_bits b) ≡ some (entries_in g z b)
  zone_read =
      let p = zone_tests g z b (entries_in g z b) s.kept in
      let a = alloc_all block z (first_bit z) refl (first_low z) (first_high z) in
      ap (λ (x : List Bool). follow_from (first_bit z) (onward 8 (link_in b)) (fragments_in g.idlen x)) (sym a)
      ∙ ap (follow_from (first_bit z) (onward 8 (link_in b))) p.cut ∙ p.chain

-- from the first fragment of a zone on, or past the last zone
module _ {m : List ℕ} {g : Geometry} (z : ℕ) (a : ReadableFrom m g z) where
  pub starts_past : g.zones ≤ z → Starts m g z (walk z 0 0)
  starts_past h = record {
    stands = record { ahead = a; passing = λ k. absurd (omega arith); inside = λ k. absurd (omega arith) };
    all = λ to l. none_remain m g to (walk z 0 0) (omega arith) ∙ sym (from_none m g to z (omega arith));
  }

  pub starts_at : z < g.zones → (at chain : ℕ) → at ≡ first_bit z → chain ≡ onward 8 (link_in (zone_block g m z)) → Starts m g z (walk z at chain)
  starts_at h at chain ea ec =
      let s = zone_sound a z (omega arith) h in
      let r : read_from g.idlen at (end_bit g) chain (byte_bits (zone_block g m z)) ≡ some (entries_in g z (zone_block g m z)) =
      (λ i. read_from g.idlen (ea i) (end_bit g) (ec i) (byte_bits (zone_block g m z))) ∙ zone_read s in
      let l : at < end_bit g = omega (arith, first_high z, a.numbers.bits_low, a.numbers.shortest_low) in
      let p : Passing m g (walk z at chain) = record {
        low = omega arith;
        high = omega arith;
        readable = subst⁻¹ (λ (x : Option (List Entry)). CanRead x) r tt;
      } in
      record {
        stands = record { ahead = a; passing = λ k. p; inside = λ k. l };
        all = λ to u. by_test (ltb z to)
            (λ t. let k = ltb-true z to t in
            here_remain m g to (walk z at chain) k
            ∙ ap (λ (x : Option (List Entry)). map (line_of g z) (entries_some x) ++ lines_from g m (suc z) (to - suc z)) r
            ∙ sym (from_some m g to z k))
            (λ t. let k = ltb-false z to t in none_remain m g to (walk z at chain) k ∙ sym (from_none m g to z k));
      }

-- a place after a zone's last fragment
module _ {m : List ℕ} {g : Geometry} {w : Walk} (p : Passing m g w) where
  pub settles_next : end_bit g ≤ w.at.0 → (z : ℕ) → z ≡ w.zone + 1 → (r : Walk) → Starts m g z r → Settles m g w r
  settles_next h z ez r s =
      let ea : w.at.0 ≡ end_bit g = omega (arith, p.high) in
      let e : entries_some (read_from g.idlen w.at.0 (end_bit g) w.chain.0 (byte_bits (zone_block g m w.zone))) ≡ [] =
      ap (λ (x : ℕ). entries_some (read_from g.idlen x (end_bit g) w.chain.0 (byte_bits (zone_block g m w.zone)))) ea
      ∙ none_read g.idlen (end_bit g) w.chain.0 (byte_bits (zone_block g m w.zone)) in
      let f : z ≡ suc w.zone = omega arith in
      record {
        stands = s.stands;
        same = λ to u k. s.all to u ∙ ap (λ (x : ℕ). lines_from g m x (to - x)) f
            ∙ sym (here_remain m g to w k ∙ ap (λ (x : List Entry). map (line_of g w.zone) x ++ lines_from g m (suc w.zone) (to - suc w.zone)) e);
      }

-- the fragment at a place
holder_number_law : (b : Bool) (id : ℕ) → holder_number (cond b free (owned id)) ≡ cond b 0 id
holder_number_law true id = refl
holder_number_law false id = refl

module _ {m : List ℕ} {g : Geometry} {w : Walk} (h : w.zone < g.zones) (s : Stands m g w) where
  abbrev a : ReadableFrom m g w.zone
  a = s.ahead

  abbrev bits : List Bool
  bits = byte_bits (zone_block g m w.zone)

  pub in_bits : end_bit g ≤ length (zone_block g m w.zone) * 8
  in_bits = omega (arith, (zone_sound a w.zone (omega arith) h).sized, a.numbers.bits_in_block)

  pub closes_here : w.at.0 + length_at g.idlen w.at.0 (end_bit g) bits ≤ end_bit g
  closes_here =
      closes g.idlen w.at.0 (end_bit g) w.chain.0 bits (omega (arith, a.numbers.idlen_low)) (omega (arith, in_bits, length_byte_bits (zone_block g m w.zone)))
      (s.inside h) (s.passing h).readable

  module _ {id len : ℕ} (ei : id ≡ id_at g.idlen w.at.0 bits) (el : len ≡ length_at g.idlen w.at.0 (end_bit g) bits) where
    pub opened_here : Opened g.idlen w.at.0 (end_bit g) w.chain.0 bits id len
    opened_here =
        opened g.idlen w.at.0 (end_bit g) w.chain.0 bits (omega (arith, a.numbers.idlen_low)) (omega (arith, in_bits, length_byte_bits (zone_block g m w.zone)))
        (s.inside h) (s.passing h).readable id len ei el

    pub passes : Passing m g (walk w.zone (w.at.0 + len) (next_after w.at.0 w.chain.0 id))
    passes = record { low = omega (arith, (s.passing h).low); high = opened_here.within; readable = (read_on opened_here).0 }

    pub advances : {o d : ℕ} {r : Walk} → o ≡ cond (eqb w.at.0 w.chain.0) 0 id → d ≡ disc_bit g w.zone w.at.0
        → Settles m g (walk w.zone (w.at.0 + len) (next_after w.at.0 w.chain.0 id)) r
        → Advances m g w (record { line = record { zone = w.zone; holder = o; start = record { 0 = d }; len = len }; after = r })
    advances {o} {d} {r} eo ed t =
        let past : Walk = walk w.zone (w.at.0 + len) (next_after w.at.0 w.chain.0 id) in
        let this : Entry = entry w.at.0 (fragment_of id len) (holder_at w.at.0 w.chain.0 id) in
        let e : line_of g w.zone this ≡ record { zone = w.zone; holder = o; start = record { 0 = d }; len = len } =
        (let k : holder_number (holder_at w.at.0 w.chain.0 id) ≡ o = holder_number_law (eqb w.at.0 w.chain.0) id ∙ sym eo in
        λ i. record { zone = w.zone; holder = k i; start = record { 0 = sym ed i }; len = len }) in
        record {
          stands = t.stands;
          here = refl;
          passed = λ to u k.
              here_remain m g to w k
              ∙ ap (λ (x : List Entry). map (line_of g w.zone) x ++ lines_from g m (suc w.zone) (to - suc w.zone)) (read_on opened_here).1
              ∙ ap (λ (x : Line). x ∷ (lines_here g m past ++ lines_from g m (suc w.zone) (to - suc w.zone))) e
              ∙ ap (λ (x : List Line). record { zone = w.zone; holder = o; start = record { 0 = d }; len = len } ∷ x) (sym (here_remain m g to past k) ∙ sym (t.same to u k));
        }

-- one line fewer remains
pub fewer : {m : List ℕ} {g : Geometry} {w : Walk} {r : Step} → Advances m g w r → (to : ℕ) → to ≤ g.zones → w.zone < to
    → length (remaining m g to r.after) < length (remaining m g to w)
fewer a to u k = omega (arith, ap length (a.passed to u k))
