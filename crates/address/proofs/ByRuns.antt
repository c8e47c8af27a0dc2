-- What an answer's run says of the piece it lies in, and that a tool which goes from run to run reads the whole file: where it asks,
-- only the pieces that are left count, and each question takes it to the end of one.
use mathlib.Core.Path.{◌≡◌, refl, sym, ap, ◌∙◌, subst}
use mathlib.Core.List.{List, [], ◌∷◌, ◌++◌}
use Prim.Native.Nat.{ℕ, zero, suc, ◌+◌, ◌-◌, ◌*◌, ◌<◌, ◌≤◌}
use native.Mathlib.Nat.{add-zero, sub-zero, zero-sub, mul-le-mul}
use native.Mathlib.Omega.{arith}
use lib.Dec.{ltb}
use lib.ListN.{length, get_or, drop, length-drop, drop_of_length-le}
use lib.Seq.{drop-nil, drop-append-le, drop-append-add, get_or-drop}
use borrow.Author.Tests.{lt-ltb, ltb-true, ltb-false}
use Rattle.bits.proofs.Tests.{by_test}
use Rattle.geometry.specs.declared.Geometry.{Geometry}
use Rattle.geometry.specs.Record.{version_of, geometry_of}
use Rattle.model.specs.Answer.{Answer, refused, answered}
use Rattle.model.specs.Chain.{Pair}
use Rattle.model.specs.Rules.{MapRules}
use Rattle.model.specs.Shown.{listed_on}
use Rattle.model.proofs.LinesJudged.{table_answered}
use Rattle.listing.specs.Listed.{object_found}
use Rattle.listing.specs.Laws.{At, first}
use Rattle.listing.proofs.InTurn.{piece_some}
use Rattle.listing.proofs.ByTable.{list_by_table}
use Rattle.listing.proofs.OwnAnswers.{shown, owner_in_range, list_shows}
use Rattle.address.specs.declared.Location.{Location}
use Rattle.address.specs.Address.{id_of, start_offset, at, locate, address_sought, seek, within, location_found, address_found}
use Rattle.address.specs.Refusals.{addresses_from, joined}
use Rattle.address.specs.Reading.{InPiece, RunIn, read_run, copied, ReadsFile}
use Rattle.address.proofs.Bounds.{whole_object}
use Rattle.address.proofs.SeekOn.{locate_past}
use Rattle.address.proofs.Joined.{length_addresses, length_total, joined_found}
use Rattle.address.proofs.OneToOne.{object_one_to_one}
use Rattle.address.proofs.OwnAnswers.{Located, is_located, found, object_answers, asked_again}
use Rattle.address.proofs.InRun.{at_drop, byte_of, InPair, behind, in_pair}

-- the first byte of pairs
first_byte : (unit : ℕ) (q : Pair) (qs : List Pair) → 0 < q.len * unit → locate unit (q ∷ qs) 0 ≡ at (record { address = q.start * unit; run = q.len * unit })
first_byte unit q qs some =
    let a : q.start * unit + 0 ≡ q.start * unit = omega arith in
    let r : q.len * unit - 0 ≡ q.len * unit = omega arith in
    rw (lt-ltb 0 (q.len * unit) some) (λ i. at (record { address = a i; run = r i }))

-- a piece of an object has some
some_bytes : (m : List ℕ) → MapRules m → (id i : ℕ) (q : Pair) → At q i (listed_on m id) → 0 < q.len * (geometry_of m).unit
some_bytes m w id i q v =
    let a = shown m w in
    let some : 1 * 128 ≤ q.len * (geometry_of m).unit = mul-le-mul (piece_some a id i q v) a.readable.numbers.unit_low in
    omega arith

-- the addresses of a run
drop_addresses : (a n x : ℕ) → drop x (addresses_from a n) ≡ addresses_from (a + x) (n - x)
drop_addresses a n zero = rw (add-zero, sub-zero)
drop_addresses a zero (suc x) = rw (zero-sub)
drop_addresses a (suc n) (suc x) =
    let b : suc a + x ≡ a + suc x = omega arith in
    let k : n - x ≡ suc n - suc x = omega arith in
    drop_addresses (suc a) n x ∙ (λ i. addresses_from (b i) (k i))

-- a tool whose answers are those of the pairs that are left, from byte x of them on
module _ (unit : ℕ) (ask : ℕ → Answer Location) where
  abbrev Answers : List Pair → ℕ → ℕ → Type 0
  Answers qs p x = (y : ℕ) → ask (p + y) ≡ within (locate unit qs (x + y))

  asked_here : (qs : List Pair) (p x : ℕ) → Answers qs p x → ask p ≡ within (locate unit qs x)
  asked_here qs p x s = ap ask (sym (add-zero p)) ∙ s 0 ∙ ap (λ (i : ℕ). within (locate unit qs i)) (add-zero x)

  -- it goes on behind the first pair
  answers_behind : (q : Pair) (qs : List Pair) (p x d y : ℕ) → x + d ≡ q.len * unit + y → Answers (q ∷ qs) p x → Answers qs (p + d) y
  answers_behind q qs p x d y e s z =
      let r : p + d + z ≡ p + (d + z) = omega arith in
      ap ask r ∙ s (d + z) ∙ ap within (behind unit q qs (x + (d + z)) (y + z) (omega arith))

  walk : (qs : List Pair) (asks p x : ℕ) → length qs ≤ asks → Answers qs p x → copied ask asks p ≡ drop x (joined unit qs)
  walk [] zero p x h s = sym (drop-nil x)
  walk [] (suc asks) p x h s = ap (λ r. read_run r (λ (l : Location). copied ask asks (p + l.run))) (asked_here [] p x s) ∙ sym (drop-nil x)
  walk (q ∷ qs) zero p x h s = absurd (omega arith)
  walk (q ∷ qs) (suc asks) p x h s =
      let n : ℕ = q.len * unit in
      let these : List ℕ = addresses_from (q.start * unit) n in
      let k : length these ≡ n = length_addresses (q.start * unit) n in
      by_test (ltb x n)
      (λ t. let u = ltb-true x n t in
      let read : ask p ≡ answered (byte_of unit q x) = asked_here (q ∷ qs) p x s ∙ rw t in
      ap (λ r. read_run r (λ (l : Location). copied ask asks (p + l.run))) read
      ∙ ap (λ r. addresses_from (q.start * unit + x) (n - x) ++ r) (walk qs asks (p + (n - x)) 0 (omega arith) (answers_behind q qs p x (n - x) 0 (omega arith) s))
      ∙ sym (drop-append-le x these (joined unit qs) (omega arith) ∙ ap (λ (r : List ℕ). r ++ joined unit qs) (drop_addresses (q.start * unit) n x)))
      (λ t. let u = ltb-false x n t in
      let e : x ≡ length these + (x - n) = omega arith in
      let v : p + 0 ≡ p = omega arith in
      ap (copied ask (suc asks)) (sym v)
      ∙ walk qs (suc asks) (p + 0) (x - n) (omega arith) (answers_behind q qs p x 0 (x - n) (omega arith) s)
      ∙ sym (ap (λ (i : ℕ). drop i (these ++ joined unit qs)) e ∙ drop-append-add these (joined unit qs) (x - n)))

-- a run that is answered
module _ (m : List ℕ) (n position : ℕ) (l : Location) (e : location_found m n position ≡ answered l) where
  abbrev g : Geometry
  g = geometry_of m

  abbrev unit : ℕ
  unit = (geometry_of m).unit

  abbrev pairs : List Pair
  pairs = listed_on m (id_of n)

  abbrev from : ℕ
  from = start_offset g n + position

  known : Located m n position l
  known = is_located m n position l e

  here : InPair unit pairs from l
  here = in_pair unit pairs from l known.byte

  one_place : (i j a : ℕ) → seek unit pairs i ≡ at a → seek unit pairs j ≡ at a → i ≡ j
  one_place = object_one_to_one (shown m known.rules) (id_of n)

  -- another byte of the file
  asked : (d j : ℕ) → from + d ≡ j → location_found m n (position + d) ≡ within (locate unit pairs j)
  asked d j s =
      let r : start_offset g n + (position + d) ≡ j = omega arith in
      asked_again m n position l e (position + d) ∙ ap (λ (i : ℕ). within (locate unit pairs i)) r

  address_is : l.address ≡ here.pair.start * unit + here.x
  address_is = ap (λ (k : Location). k.address) here.value

  run_is : l.run ≡ here.pair.len * unit - here.x
  run_is = ap (λ (k : Location). k.run) here.value

  follows : (j : ℕ) → j < l.run
      → (location_found m n (position + j) ≡ answered (record { address = l.address + j; run = l.run - j })) × InPiece unit here.pair (l.address + j)
  follows j h =
      let q : Pair = here.pair in
      let y : ℕ = here.x + j in
      let inside : y < q.len * unit = omega (arith, run_is, here.inside) in
      let a : q.start * unit + y ≡ l.address + j = omega (arith, address_is) in
      let r : q.len * unit - y ≡ l.run - j = omega (arith, run_is) in (
        asked j (here.before + y) (omega (arith, here.sum)) ∙ ap within (here.bytes y inside) ∙ (λ i. answered (record { address = a i; run = r i })),
        (omega (arith, address_is), omega (arith, address_is, inside)),
      )

  after : location_found m n (position + l.run) ≡ within (locate unit (drop (suc here.place) pairs) 0)
  after = asked l.run (here.before + here.pair.len * unit) (omega (arith, here.sum, run_is, here.inside)) ∙ ap within here.after

  after_outside : (a : ℕ) → address_found m n (position + l.run) ≡ answered a → InPiece unit here.pair a → ⊥
  after_outside a u k =
      let q : Pair = here.pair in
      let y : ℕ = a - q.start * unit in
      let inside : y < q.len * unit = omega (arith, k.0, k.1) in
      let s : q.start * unit + y ≡ a = omega (arith, k.0) in
      omega (
        arith,
        one_place (here.before + y) (start_offset g n + (position + l.run)) a (ap address_sought (here.bytes y inside) ∙ ap at s) (found m n (position + l.run) a u).sought,
        here.sum,
        run_is,
        here.inside,
      )

  next : (p : Pair) → At p (suc here.place) pairs → location_found m n (position + l.run) ≡ answered (record { address = p.start * unit; run = p.len * unit })
  next p v =
      after ∙ ap (λ (qs : List Pair). within (locate unit qs 0)) (at_drop v)
      ∙ ap within (first_byte unit p (drop (suc (suc here.place)) pairs) (some_bytes m known.rules (id_of n) (suc here.place) p v))

  last : length pairs ≡ suc here.place → location_found m n (position + l.run) ≡ refused 16 0
  last h = after ∙ ap (λ (qs : List Pair). within (locate unit qs 0)) (drop_of_length-le pairs {i = suc here.place} (omega arith))

  -- the tool's answers from here on
  module _ (asks : ℕ) (enough : length pairs ≤ asks) where
    abbrev read : List ℕ
    read = copied (location_found m n) asks position

    read_is : read ≡ drop from (joined unit pairs)
    read_is = walk unit (location_found m n) pairs asks position from enough (λ y. asked y (from + y) refl)

    length_read : from + length read ≡ length (joined unit pairs)
    length_read = omega (arith, ap length read_is ∙ length-drop from (joined unit pairs), known.below)

    read_at : (i : ℕ) → i < length read → seek unit pairs (from + i) ≡ at (get_or read i 0)
    read_at i h =
        joined_found unit pairs (from + i) (omega (arith, length_read))
        ∙ ap at (sym (ap (λ (r : List ℕ). get_or r i 0) read_is ∙ get_or-drop from (joined unit pairs) i 0))

    reads : ReadsFile m n position pairs read
    reads = record {
      exactly = read_is;
      once = λ i j h k s. omega (arith, one_place (from + i) (from + j) (get_or read j 0) (read_at i h ∙ ap at s) (read_at j k));
      done = asked (length read) (from + length read) refl ∙ ap within (locate_past unit pairs (from + length read) (omega (arith, length_read, length_total unit pairs)));
    }

-- as `list` answers the pieces
pub run_in_piece : (m : List ℕ) (n position : ℕ) (l : Location) → location_found m n position ≡ answered l → (room : ℕ) (qs : List Pair) → object_found m (id_of n) room ≡ answered qs
    → (k : ℕ) × (q : Pair) × At q k qs × RunIn m n position l qs k q
run_in_piece m n position l e room qs f =
    let h = here m n position l e in
    subst (λ (x : List Pair). (k : ℕ) × (q : Pair) × At q k x × RunIn m n position l x k q) (sym (list_shows m (id_of n) room qs f)) (
      h.place,
      h.pair,
      h.there,
      record {
        some = omega (arith, run_is m n position l e, h.inside);
        follows = follows m n position l e;
        ends = omega (arith, address_is m n position l e, run_is m n position l e, h.inside);
        after_outside = after_outside m n position l e;
        next = next m n position l e;
        last = last m n position l e;
      },
    )

pub copied_by_runs : (m : List ℕ) (n position : ℕ) (l : Location) → location_found m n position ≡ answered l → (room : ℕ) (qs : List Pair) → object_found m (id_of n) room ≡ answered qs
    → (asks : ℕ) → length qs ≤ asks → ReadsFile m n position qs (copied (location_found m n) asks position)
copied_by_runs m n position l e room qs f asks =
    subst (λ (x : List Pair). length x ≤ asks → ReadsFile m n position x (copied (location_found m n) asks position)) (sym (list_shows m (id_of n) room qs f))
    (λ enough. reads m n position l e asks enough)

-- an object that `list` answers has a first byte
some_byte : (unit : ℕ) (qs : List Pair) → (qs ≡ [] → ⊥) → ((q : Pair) → At q 0 qs → 0 < q.len * unit) → (a : ℕ) × (seek unit qs 0 ≡ at a)
some_byte b [] n k = absurd (n refl)
some_byte b (q ∷ qs) n k = (q.start * b, ap address_sought (first_byte b q qs (k q first)))

pub object_copied : (m : List ℕ) → version_of m ≡ 0 → (id room : ℕ) (qs : List Pair) → 2 ≤ id → object_found m id room ≡ answered qs
    → (asks : ℕ) → length qs ≤ asks → copied (location_found m (id * 256)) asks 0 ≡ joined (geometry_of m).unit qs
object_copied m v id room qs low f asks enough =
    let t = table_answered (list_by_table m id room) f in
    let some : listed_on m id ≡ [] → ⊥ = λ e. t.none_given.1.0 0 (refl, e) in
    let b = some_byte (geometry_of m).unit (listed_on m id) some (λ q w. some_bytes m t.rules id 0 q w) in
    let a = found m (id * 256) 0 b.0 (object_answers m t.rules v id low (owner_in_range m t.rules id some).1 0 b.0 b.1) in
    let d : id_of (id * 256) ≡ id = omega arith in
    let o : start_offset (geometry_of m) (id * 256) + 0 ≡ 0 = omega (arith, whole_object (geometry_of m) id) in
    (copied_by_runs m (id * 256) 0 a.location a.answer room qs (ap (λ (x : ℕ). object_found m x room) d ∙ f) asks enough).exactly
    ∙ ap (λ (x : ℕ). drop x (joined (geometry_of m).unit qs)) o
