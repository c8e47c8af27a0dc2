-- The judging walk: what was found of the fragments passed, and what is to come of the others, give the zone's verdict at
-- every place. A fragment passed moves one entry's tests from what is to come to what was found.
use Rattle.std.proofs.Common.{◌≡◌, Bool, true, false, cond, not, ◌&&◌, ◌||◌, List, ℕ, ◌+◌, ◌-◌, ◌/◌, ◌%◌, ◌<◌, ◌≤◌, eqb, leb, Some, None, Ok, Err, refl, arith}
use Rattle.std.proofs.Math.Option.{Option, none, some}
use Rattle.std.proofs.Math.Seq.{slice}
use Rattle.std.specs.Bool.{then_some}
use Rattle.std.proofs.lemmas.Bool.Decides.{nat_tests}
use borrow.Author.Tests.{eq-eqb, ne_eqb}
use Rattle.bits.specs.Bits.{byte_bits}
use Rattle.fragment.specs.declared.FragmentRead.{FragmentRead}
use Rattle.fragment.specs.Found.{fragment_at, next_after}
use Rattle.fragment.proofs.Step.{fragment_of}
use Rattle.geometry.specs.declared.Geometry.{Geometry}
use Rattle.geometry.specs.Answers.{refusal}
use Rattle.geometry.specs.Places.{first_bit, end_bit}
use Rattle.model.specs.Fragments.{Fragment, edge, cut, fragments_in}
use Rattle.model.specs.Chain.{Entry, onward, before, follow}
use Rattle.model.specs.Blocks.{free_link, link_in, alloc_bits}
use Rattle.model.specs.Check.{every, in_clusters, id_fits, end_fits, first_owned, after_cut, zone_read}
use Rattle.zone.specs.Walk.{holder_of, entry_holds, Verdict, verdict_of}
use Rattle.zone.proofs.AllocBits.{ZoneBlock, alloc_all, found_here, fits_here, bits_after}

-- the owner rules of the entries to come; `first`: the zone's first entry is among them
abbrev owners_fit_from : Geometry → ℕ → Bool → List Entry → Bool
owners_fit_from g z first es = every (id_fits g) es && every (end_fits g z) es && (not (first && eqb z (g.zones / 2)) || first_owned 2 es)

-- the verdict from a place on; `owners`: the entries passed keep the owner rules
abbrev after_chain : Geometry → ℕ → Bool → Bool → Option (List Entry) → Verdict
after_chain g z first owners none = Err (refusal 5 z)
after_chain g z first owners (some es) = cond (owners && owners_fit_from g z first es) (Ok tt) (Err (refusal 7 z))

abbrev verdict_from : Geometry → ℕ → Bool → Bool → ℕ → ℕ → Bool → Option (List Fragment) → Verdict
verdict_from g z top first at next owners none = Err (refusal 6 z)
verdict_from g z top first at next owners (some fs) =
    cond (in_clusters g.cluster fs) (cond top (after_chain g z first owners (follow at next fs)) (Err (refusal 5 z))) (Err (refusal 6 z))

pub record JudgedSoFar (b : List ℕ) (z : ℕ) (g : Geometry) (start end link at next : ℕ) (owners : Bool) : Type 0 where
  pub block : ZoneBlock g b end
  pub low : start ≤ at
  pub high : at ≤ end
  pub same : verdict_from g z (leb 32768 link) (eqb at start) at next owners (cut (g.idlen - 1) edge (slice at end (byte_bits b))) ≡ verdict_of (zone_read g z b)

verdict_first : (g : Geometry) (z : ℕ) (b : List ℕ) (r : Option (List Fragment))
    → verdict_from g z (leb 32768 (free_link b)) true (first_bit z) (onward 8 (link_in b)) true r ≡ verdict_of (after_cut g z b r)
verdict_first g z b r = grind arith

verdict_turn : (g : Geometry) (z : ℕ) (top first : Bool) (at next : ℕ) (owners : Bool) (f : FragmentRead) (r : Option (List Fragment)) → f.len % g.cluster ≡ 0
    → verdict_from g z top first at next owners (before (fragment_of f.id f.len) r)
    ≡ verdict_from g z top false (at + f.len) (next_after at next f.id) (owners && entry_holds g z first (at + f.len) (holder_of (then_some (not (eqb at next)) f.id))) r
verdict_turn g z top first at next owners f r e = grind (arith, nat_tests)

pub judge_starts : {b : List ℕ} {z : ℕ} {g : Geometry} {start end link next : ℕ} → ZoneBlock g b end → (start ≡ first_bit z) × (32 ≤ start) × (start ≤ 512)
    → link ≡ free_link b → next ≡ onward 8 (link_in b) → JudgedSoFar b z g start end link start next true
judge_starts {b} {z} {g} {start} k s el en =
    let a = alloc_all k z start s.0 s.1 s.2 in
    let t = eq-eqb start start refl in
    let v = verdict_first g z b (fragments_in g.idlen (alloc_bits (first_bit z) (end_bit g) b)) in
    record { block = k; low = omega arith; high = omega (arith, k.numbers.bits_low, k.ends); same = cc }

module _ {b : List ℕ} {z : ℕ} {g : Geometry} {start end link at next : ℕ} {owners : Bool} (j : JudgedSoFar b z g start end link at next owners) (h : at < end) where
  pub judge_turn : {f : FragmentRead} → Some f ≡ fragment_at b at end g.idlen g.cluster
      → JudgedSoFar b z g start end link (at + f.len) (next_after at next f.id) (owners && entry_holds g z (eqb at start) (at + f.len) (holder_of (then_some (not (eqb at next)) f.id)))
  judge_turn {f} e =
      let w = found_here j.block at h (Some f) e in
      let l = bits_after j.block at f.len in
      let n = ne_eqb (at + f.len) start (λ x. omega (arith, j.low)) in
      let v = verdict_turn g z (leb 32768 link) (eqb at start) at next owners f (cut (g.idlen - 1) edge (slice (at + f.len) end (byte_bits b))) w.in_clusters in
      record { block = j.block; low = omega (arith, j.low); high = (fits_here j.block at h e).1; same = cc }

  pub judge_breaks : None ≡ fragment_at b at end g.idlen g.cluster → Err (refusal 6 z) ≡ verdict_of (zone_read g z b)
  judge_breaks e = let w = found_here j.block at h None e in grind arith
