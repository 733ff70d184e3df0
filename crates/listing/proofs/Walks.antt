-- The walk of the listing, record by record.
use Rattle.std.proofs.Common.{◌≡◌, ℕ, ◌+◌, ◌-◌, ◌*◌, ◌<◌, ◌≤◌, eqb, List, [], ◌∷◌, ◌++◌, length, get_or, set, replicate, Some, None, Ok, Option, sym, ap, ◌∙◌, inl, inr, arith, rules, length-set, get_or-set_other}
use Rattle.std.proofs.lemmas.Grind.{common_steps, get_or-set_at}
use Rattle.std.proofs.lemmas.List.{get_or_past, get_or-replicate, length_push, length-replicate}
use Rattle.std.proofs.lemmas.Bool.{cases_eq, cases_lt, cond-true, cond-false, cond_both, eq-eqb, ne_eqb}
use Rattle.layout.specs.Layout.{kind_number}
use Rattle.layout.specs.declared.kind.Kind.{Kind}
use Rattle.records.proofs.Exact.{read_room}
use Rattle.records.specs.Reading.{advanced, read_at}
use Rattle.values.specs.Values.{kind_of}
use Rattle.values.specs.declared.value.Record.{Record}
use Rattle.listing.specs.Walk.{Holds, count_of, of_kind}

-- where a walk through s stands: what the reader reads, its position, and the counts
pub record Walked (s read : List ℕ) (position : ℕ) (counts : List ℕ) : Type 0 where
  pub held : List Record
  pub same : read ≡ s
  pub holds : Holds s 0 held
  pub place : position ≡ length held
  pub size : length counts ≡ 12
  pub each : (n : ℕ) → get_or counts n 0 ≡ count_of n held

holds_push : (s : List ℕ) (p : ℕ) (vs : List Record) (v : Record) → Holds s p vs → read_at s (p + length vs) ≡ Ok (Some v) → Holds s p (vs ++ v ∷ [])
holds_push s p [] v h e = let z : p ≡ p + 0 = omega arith in (ap (read_at s) z ∙ e, tt)
holds_push s p (w ∷ ws) v h e =
    let z : p + 1 + length ws ≡ p + length (w ∷ ws) = omega arith in
    (h.0, holds_push s (p + 1) ws v h.1 (ap (read_at s) z ∙ e))

count_push : (n : ℕ) (vs : List Record) (v : Record) → count_of n (vs ++ v ∷ []) ≡ count_of n vs + of_kind n (kind_of v)
count_push n [] v = omega arith
count_push n (w ∷ ws) v = omega (arith, count_push n ws v)

one_at_most : (n : ℕ) (o : Option Kind) → of_kind n o ≤ 1
one_at_most n (Some kind) = cond_both (eqb (kind_number kind) n) 1 0 (λ k. k ≤ 1) (λ e. omega arith) (λ e. omega arith)
one_at_most n None = omega arith

count_le : (n : ℕ) (vs : List Record) → count_of n vs ≤ length vs
count_le n [] = omega arith
count_le n (v ∷ vs) = omega (arith, count_le n vs, one_at_most n (kind_of v))

number_small : (kind : Kind) → kind_number kind < 12
number_small kind = search rules

-- one more record of a kind
noted : (counts : List ℕ) (kind : Kind) (n : ℕ) → kind_number kind < length counts → get_or (set counts (kind_number kind) (get_or counts (kind_number kind) 0 + 1)) n 0 ≡ get_or counts n 0 + of_kind n (Some kind)
noted counts kind n l =
    elim (cases_eq (kind_number kind) n) [
      | inl e ↦ grind (arith, common_steps, get_or-set_at {X = ℕ}, cond-true, eq-eqb)
      | inr e ↦ grind (arith, common_steps, get_or-set_other {A = ℕ}, cond-false, ne_eqb)
    ]

-- what one call of the reader told: a record at position p, and the position behind it
module _ (s read read' : List ℕ) (p p' : ℕ) (counts : List ℕ) (next : Option Record) (v : Record) (w : Walked s read p counts) (answer : Ok next ≡ read_at read p) (some : next ≡ Some v) (kept : read' ≡ read) (moved : p' ≡ advanced p (Ok next)) where
  read_here : read_at s p ≡ Ok (Some v)
  read_here = ap (λ r. read_at r p) (sym w.same) ∙ sym answer ∙ ap Ok some

  moved_one : p' ≡ p + 1
  moved_one = moved ∙ ap (λ o. advanced p (Ok o)) some

  pub room : 16 * p + 16 ≤ length s
  room = read_room s p v read_here

  -- fewer bytes are left
  pub one_less : length s - 16 * p' < length s - 16 * p
  one_less = omega (arith, room, moved_one)

  -- the record is one more that the section holds
  holds_more : Holds s 0 (w.held ++ v ∷ [])
  holds_more = let z : 0 + length w.held ≡ p = omega (arith, w.place) in holds_push s 0 w.held v w.holds (ap (read_at s) z ∙ read_here)

  place_more : p' ≡ length (w.held ++ v ∷ [])
  place_more = moved_one ∙ ap (λ j. j + 1) w.place ∙ sym (length_push w.held v)

  pub walk_kind : (kind : Kind) (counts' : List ℕ) → Some kind ≡ kind_of v → counts' ≡ set counts (kind_number kind) (get_or counts (kind_number kind) 0 + 1) → Walked s read' p' counts'
  walk_kind kind counts' k c =
      record {
        held = w.held ++ v ∷ [];
        same = kept ∙ w.same;
        holds = holds_more;
        place = place_more;
        size = ap length c ∙ length-set counts (kind_number kind) _ ∙ w.size;
        each = λ n. ap (λ cs. get_or cs n 0) c ∙ noted counts kind n (omega (arith, number_small kind, w.size)) ∙ ap (λ j. j + of_kind n (Some kind)) (w.each n) ∙ ap (λ o. count_of n w.held + of_kind n o) k ∙ sym (count_push n w.held v);
      }

  pub walk_blank : None ≡ kind_of v → Walked s read' p' counts
  walk_blank k =
      record {
        held = w.held ++ v ∷ [];
        same = kept ∙ w.same;
        holds = holds_more;
        place = place_more;
        size = w.size;
        each = λ n. w.each n ∙ omega (arith, count_push n w.held v, ap (of_kind n) (sym k));
      }

pub count_small : (s read : List ℕ) (p : ℕ) (counts : List ℕ) (n : ℕ) → Walked s read p counts → get_or counts n 0 ≤ p
count_small s read p counts n w = omega (arith, w.each n, count_le n w.held, w.place)

zeros : (n m : ℕ) → ◌≡◌ {A = ℕ} (get_or (replicate m 0) n 0) 0
zeros n m =
    elim (cases_lt n m) [
      | inl l ↦ get_or-replicate m n 0 0 l
      | inr l ↦ get_or_past (replicate m 0) n 0 (omega (arith, length-replicate {A = ℕ} m 0))
    ]

pub walk_start : (s read : List ℕ) (position : ℕ) (counts : List ℕ) → read ≡ s → position ≡ 0 → counts ≡ replicate 12 0 → Walked s read position counts
walk_start s read position counts r p c =
    record { held = []; same = r; holds = tt; place = p; size = ap length c; each = λ n. ap (λ cs. get_or cs n 0) c ∙ zeros n 12 }
