-- Reading gives a value exactly where the bytes encode it, and what is written encodes its value and nothing else.
use Rattle.std.proofs.Common.{◌≡◌, ℕ, ◌+◌, ◌*◌, ◌/◌, ◌%◌, ◌^◌, ◌<◌, ◌≤◌, Bool, true, false, cond, ltb, leb, List, [], ◌++◌, length, get_or, take, drop, pos, Some, None, Ok, Err, Option, Result, sym, refl, ap, ◌∙◌, inl, inr, mod-eq_of_lt, mul_assoc, zero-add, arith, length-drop, length-take, get_or-drop, get_or-take}
use native.Mathlib.Nat.{add-mul-mod_self_right}
use Rattle.std.proofs.lemmas.Nat.{div-mul-add, pow-add}
use Rattle.std.proofs.ByRecursion.{All-from_get_or}
use Rattle.std.proofs.lemmas.List.{take_at}
use Rattle.std.proofs.lemmas.Bool.{cases_Bool, cond-true, cond-false, lt-leb, le-ltb, eq-eqb, eqb-true, leb-false, ltb-false}
use Rattle.std.specs.Int.{bytes_high_first, to_be_bytes, w128}
use Rattle.std.specs.Int.Digits.{number_from_digits}
use Rattle.faults.specs.Refusals.{byte_refusal, record_refusal, sheet_refusal, told}
use Rattle.faults.specs.declared.ByteFault.TheVariants.{Cut}
use Rattle.faults.specs.declared.RecordFault.{RecordFault}
use Rattle.faults.specs.declared.Refusal.{Refusal}
use Rattle.faults.specs.declared.SheetFault.{SheetFault}
use Rattle.layout.specs.Layout.{fields_of, kind_at, kind_number, kinds}
use Rattle.layout.specs.Packing.{InRange, bits_of, figures_in, first_out_of_range, packed, padding, word_of}
use Rattle.layout.specs.declared.kind.Kind.{Kind}
use Rattle.layout.specs.Cases.{kind_found}
use Rattle.layout.proofs.LaidOut.{laid, number_below}
use Rattle.layout.proofs.RoundTrip.{none_from_range, packed_below, packed_read, padding_zero, range_from_none, read_packed}
use Rattle.records.specs.Encoding.{Encodes, encoding, word_as}
use Rattle.records.specs.Reading.{ExactFirst, Exactly, bytes_at, first_record, first_word, if_in_range, if_known, if_padded, or_cut, read_at, read_word, some_record, then_first, then_read, word_at}
use Rattle.values.specs.Values.{Shaped, figures_of, kind_of, record_of}
use Rattle.records.specs.Writing.{Encodable, Encoded, RoundTrip, checked, checked_as, if_room, or_out_of_range, then_room, writing, written}
use Rattle.values.specs.declared.value.Record.{Record}
use Rattle.records.proofs.Bytes.{bytes_number, length_bytes, number_bytes, under_bytes}
use Rattle.names.proofs.Cases.{case_is}
use Rattle.values.proofs.Figures.{figure_count, figures_of_value, kind_of_value, shape_of_value, value_of_figures}

-- the word of a value in range is read as that value
module _ (value : Record) (kind : Kind) (named : kind_of value ≡ Some kind) (range : InRange (fields_of kind) 0 (figures_of value)) (shape : Shaped value) where
  fields_below : packed (fields_of kind) 124 0 (figures_of value) < 2 ^ 124
  fields_below = packed_below (fields_of kind) 124 0 (figures_of value) (laid kind).each range (laid kind).below

  word_below : word_of kind (figures_of value) < 2 ^ 128
  word_below = omega (arith, number_below kind, fields_below)

  kind_in_word : kind_at (pos (word_of kind (figures_of value) / 2 ^ 124)) ≡ Some kind
  kind_in_word = ap (λ n. kind_at (pos n)) (div-mul-add (kind_number kind) (2 ^ 124) (packed (fields_of kind) 124 0 (figures_of value)) fields_below) ∙ kind_found kind

  figures_in_word : figures_in (fields_of kind) 124 (word_of kind (figures_of value)) ≡ figures_of value
  figures_in_word = read_packed (fields_of kind) 124 (kind_number kind) 0 (figures_of value) (laid kind).each range (laid kind).below (figure_count value kind named ∙ sym (zero-add (length (fields_of kind)))) (word_of kind (figures_of value)) refl

  padding_in_word : word_of kind (figures_of value) % 2 ^ padding kind ≡ 0
  padding_in_word =
      let t = bits_of (fields_of kind) in
      let q = padding kind in
      let m = kind_number kind in
      let P = packed (fields_of kind) 124 0 (figures_of value) in
      let eq : t + q ≡ 124 = omega (arith, (laid kind).below) in
      let e : word_of kind (figures_of value) ≡ P + m * 2 ^ t * 2 ^ q = omega (arith, mul_assoc m (2 ^ t) (2 ^ q), ap (λ j. m * j) (sym (pow-add 2 t q)), ap (λ j. m * 2 ^ j) eq) in
      ap (λ j. j % 2 ^ q) e ∙ add-mul-mod_self_right P (m * 2 ^ t) (2 ^ q) ∙ padding_zero (fields_of kind) 124 0 (figures_of value) (laid kind).below

  pub read_word_lem : (p : ℕ) → read_word p (word_of kind (figures_of value)) ≡ Ok value
  read_word_lem p =
      let w = word_of kind (figures_of value) in
      ap (if_known p w) kind_in_word
      ∙ ap (if_in_range p kind w) (ap (first_out_of_range (fields_of kind) 0) figures_in_word ∙ none_from_range (fields_of kind) 0 (figures_of value) range)
      ∙ ap (if_padded p (record_of kind (figures_in (fields_of kind) 124 w))) (eq-eqb _ _ padding_in_word)
      ∙ ap (λ xs. Ok (record_of kind xs)) figures_in_word
      ∙ ap Ok (value_of_figures value kind named shape)

pub word_whole : (s : List ℕ) (p : ℕ) → 16 * p + 16 ≤ length s → word_at s p ≡ Ok (Some (number_from_digits 256 (bytes_at s p)))
word_whole s p l = cond-false _ _ _ (lt-leb (length s) (16 * p) (omega arith)) ∙ cond-false _ _ _ (le-ltb (length s) (16 * p + 16) l)

encoded_word : (s : List ℕ) (p : ℕ) (v : Record) (e : Encodes v (bytes_at s p)) → word_at s p ≡ Ok (Some (word_of e.kind (figures_of v)))
encoded_word s p v e =
    let l : 16 * p + 16 ≤ length s = omega (arith, sym (length-take 16 (drop (16 * p) s)) ∙ e.size, length-drop (16 * p) s) in
    word_whole s p l ∙ ap (λ n. Ok (Some n)) e.word

pub exact_to : (s : List ℕ) (p : ℕ) (v : Record) → Encodes v (bytes_at s p) → read_at s p ≡ Ok (Some v)
exact_to s p v e = ap (then_read p) (encoded_word s p v e) ∙ ap some_record (read_word_lem v e.kind e.named e.range e.shape p)

pub first_to : (s : List ℕ) (v : Record) → Encodes v (bytes_at s 0) → first_record s ≡ Ok v
first_to s v e = ap (λ o. then_first (or_cut o)) (encoded_word s 0 v e) ∙ read_word_lem v e.kind e.named e.range e.shape 0

-- what was read is encoded by the word
zero_padding_from : (p : ℕ) (value : Record) (b : Bool) (v : Record) → if_padded p value b ≡ Ok v → (b ≡ true) × (v ≡ value)
zero_padding_from p value true v e = (refl, cc)
zero_padding_from p value false v e = let z : ◌≡◌ {A = ℕ} 0 1 = cc in absurd (omega arith)

range_from : (p : ℕ) (kind : Kind) (word : ℕ) (o : Option ℕ) (v : Record) → if_in_range p kind word o ≡ Ok v → (o ≡ None) × (word % 2 ^ padding kind ≡ 0) × (v ≡ record_of kind (figures_in (fields_of kind) 124 word))
range_from p kind word (Some field) v e = let z : ◌≡◌ {A = ℕ} 0 1 = cc in absurd (omega arith)
range_from p kind word None v e = let q = zero_padding_from p _ _ v e in (refl, eqb-true _ _ q.0, q.1)

known_from : (p word : ℕ) (o : Option Kind) (v : Record) → if_known p word o ≡ Ok v → (kind : Kind) × (o ≡ Some kind) × (if_in_range p kind word (first_out_of_range (fields_of kind) 0 (figures_in (fields_of kind) 124 word)) ≡ Ok v)
known_from p word None v e = let z : ◌≡◌ {A = ℕ} 0 1 = cc in absurd (omega arith)
known_from p word (Some kind) v e = (kind, refl, e)

-- a value, its kind and the word that holds it
record Held (v : Record) (word : ℕ) : Type 0 where
  kind : Kind
  named : kind_of v ≡ Some kind
  range : InRange (fields_of kind) 0 (figures_of v)
  shape : Shaped v
  whole : word ≡ word_of kind (figures_of v)

pos_same : (a b : ℕ) → pos a ≡ pos b → a ≡ b
pos_same a b e = cc

held : (p word : ℕ) (v : Record) → read_word p word ≡ Ok v → Held v word
held p word v e =
    let a = known_from p word (kind_at (pos (word / 2 ^ 124))) v e in
    let kind = a.0 in
    let fs = fields_of kind in
    let xs = figures_in fs 124 word in
    let b = range_from p kind word _ v a.2 in
    let s : InRange fs 0 xs = range_from_none fs 0 xs b.0 in
    let m : kind_number kind ≡ word / 2 ^ 124 = pos_same _ _ (case_is kind_number kinds (pos (word / 2 ^ 124)) kind a.1) in
    let q : packed fs 124 0 xs ≡ word % 2 ^ 124 = packed_read fs 124 word 0 [] (laid kind).each refl (laid kind).below b.1 in
    let back : figures_of v ≡ xs = ap figures_of b.2 ∙ figures_of_value kind word s in
    record {
      kind = kind;
      named = ap kind_of b.2 ∙ kind_of_value kind xs;
      range = rw back s;
      shape = rw b.2 (shape_of_value kind xs);
      whole = rw back (omega (arith, m, q));
    }

some_from : (x : Result Record Refusal) (v : Record) → some_record x ≡ Ok (Some v) → x ≡ Ok v
some_from (Ok w) v e = cc
some_from (Err t) v e = let z : ◌≡◌ {A = ℕ} 0 1 = cc in absurd (omega arith)

-- a word that is there has its sixteen bytes
record There (s : List ℕ) (p word : ℕ) : Type 0 where
  room : 16 * p + 16 ≤ length s
  whole : word ≡ number_from_digits 256 (bytes_at s p)

abbrev rest_of : List ℕ → ℕ → Result (Option ℕ) Refusal
rest_of s p = cond (ltb (length s) (16 * p + 16)) (Err (byte_refusal (Cut p))) (Ok (Some (number_from_digits 256 (bytes_at s p))))

there : (s : List ℕ) (p word : ℕ) → word_at s p ≡ Ok (Some word) → There s p word
there s p word e =
    elim (cases_Bool (leb (length s) (16 * p))) [
      | inl a ↦ (let z : ◌≡◌ {A = ℕ} 0 1 = cc (sym (cond-true (leb (length s) (16 * p)) (Ok None) (rest_of s p) a) ∙ e) in absurd (omega arith))
      | inr a ↦ elim (cases_Bool (ltb (length s) (16 * p + 16))) [
        | inl b ↦ (let z : ◌≡◌ {A = ℕ} 0 1 = cc (sym (cond-false (leb (length s) (16 * p)) (Ok None) (rest_of s p) a ∙ cond-true (ltb (length s) (16 * p + 16)) (Err (byte_refusal (Cut p))) (Ok (Some (number_from_digits 256 (bytes_at s p)))) b) ∙ e) in absurd (omega arith))
        | inr b ↦ (let l = ltb-false (length s) (16 * p + 16) b in let h : Ok (Some (number_from_digits 256 (bytes_at s p))) ≡ Ok (Some word) = sym (word_whole s p l) ∙ e in record { room = l; whole = cc })
      ]
    ]

encodes_from : (s : List ℕ) (p word : ℕ) (v : Record) → ((i : ℕ) → get_or s i 0 < 256) → There s p word → Held v word → Encodes v (bytes_at s p)
encodes_from s p word v fit t h =
    let room = t.room in
    record {
      size = length-take 16 (drop (16 * p) s) ∙ omega (arith, length-drop (16 * p) s);
      bytes = All-from_get_or (λ d. d < 256) (bytes_at s p) 0 (λ i l. rw (get_or-take 16 (drop (16 * p) s) i 0 (omega (arith, length-take 16 (drop (16 * p) s)))) (rw (get_or-drop (16 * p) s i 0) (fit (16 * p + i))));
      kind = h.kind;
      named = h.named;
      range = h.range;
      shape = h.shape;
      word = sym t.whole ∙ h.whole;
    }

read_from : (p : ℕ) (o : Result (Option ℕ) Refusal) (v : Record) → then_read p o ≡ Ok (Some v) → (word : ℕ) × (o ≡ Ok (Some word)) × (read_word p word ≡ Ok v)
read_from p (Ok None) v e = let z : ◌≡◌ {A = ℕ} 0 1 = cc in absurd (omega arith)
read_from p (Ok (Some word)) v e = (word, refl, some_from (read_word p word) v e)
read_from p (Err t) v e = let z : ◌≡◌ {A = ℕ} 0 1 = cc in absurd (omega arith)

pub exact_from : (s : List ℕ) (p : ℕ) (v : Record) → ((i : ℕ) → get_or s i 0 < 256) → read_at s p ≡ Ok (Some v) → Encodes v (bytes_at s p)
exact_from s p v fit e =
    let a = read_from p (word_at s p) v e in
    encodes_from s p a.0 v fit (there s p a.0 a.1) (held p a.0 v a.2)

-- a record that is read has its sixteen bytes
pub read_room : (s : List ℕ) (p : ℕ) (v : Record) → read_at s p ≡ Ok (Some v) → 16 * p + 16 ≤ length s
read_room s p v e = let a = read_from p (word_at s p) v e in (there s p a.0 a.1).room

cut_from : (o : Result (Option ℕ) Refusal) (word : ℕ) → or_cut o ≡ Ok word → o ≡ Ok (Some word)
cut_from (Ok None) word e = let z : ◌≡◌ {A = ℕ} 0 1 = cc in absurd (omega arith)
cut_from (Ok (Some n)) word e = cc
cut_from (Err t) word e = let z : ◌≡◌ {A = ℕ} 0 1 = cc in absurd (omega arith)

first_read_from : (o : Result ℕ Refusal) (v : Record) → then_first o ≡ Ok v → (word : ℕ) × (o ≡ Ok word) × (read_word 0 word ≡ Ok v)
first_read_from (Ok word) v e = (word, refl, e)
first_read_from (Err t) v e = let z : ◌≡◌ {A = ℕ} 0 1 = cc in absurd (omega arith)

pub first_from : (s : List ℕ) (v : Record) → ((i : ℕ) → get_or s i 0 < 256) → first_record s ≡ Ok v → Encodes v (bytes_at s 0)
first_from s v fit e =
    let a = first_read_from (first_word s) v e in
    encodes_from s 0 a.0 v fit (there s 0 a.0 (cut_from (word_at s 0) a.0 a.1)) (held 0 a.0 v a.2)

pub granted : {X F : Type 0} (refusal : F → Refusal) (res : Result X F) (x : X) → told refusal res ≡ Ok x → res ≡ Ok x
granted refusal (Ok v) x e = cc
granted refusal (Err f) x e = let z : ◌≡◌ {A = ℕ} 0 1 = cc in absurd (omega arith)

-- what an answer says of the bytes
pub exactly : (s : List ℕ) (p : ℕ) (answer : Result (Option Record) RecordFault) → ((i : ℕ) → get_or s i 0 < 256) → told record_refusal answer ≡ read_at s p → Exactly s p answer
exactly s p answer fit e v = ((λ h. granted record_refusal answer (Some v) (e ∙ exact_to s p v h)), (λ h. exact_from s p v fit (sym e ∙ ap (told record_refusal) h)))

pub exactly_first : (s : List ℕ) (answer : Result Record RecordFault) → ((i : ℕ) → get_or s i 0 < 256) → told record_refusal answer ≡ first_record s → ExactFirst s answer
exactly_first s answer fit e v = ((λ h. granted record_refusal answer v (e ∙ first_to s v h)), (λ h. first_from s v fit (sym e ∙ ap (told record_refusal) h)))

-- writing
pub be_encoding : (value : Record) (n : ℕ) → n ≡ word_as (kind_of value) (figures_of value) → to_be_bytes w128 n ≡ encoding value
unfolding encoding
be_encoding value n e = ap (to_be_bytes w128) e

encodes : (value : Record) (kind : Kind) → kind_of value ≡ Some kind → InRange (fields_of kind) 0 (figures_of value) → Shaped value → Encodes value (encoding value)
unfolding encoding
encodes value kind named range shape =
    let n = word_as (kind_of value) (figures_of value) in
    let same : n ≡ word_of kind (figures_of value) = ap (λ o. word_as o (figures_of value)) named in
    let small : n < 2 ^ 128 = rw same (word_below value kind named range shape) in
    record {
      size = length_bytes 16 n;
      bytes = under_bytes 16 n;
      kind = kind;
      named = named;
      range = range;
      shape = shape;
      word = number_bytes 16 0 n ∙ omega (arith, mod-eq_of_lt small, same);
    }

only_encoding : (value : Record) (bs : List ℕ) → Encodes value bs → bs ≡ encoding value
unfolding encoding
only_encoding value bs e =
    sym (bytes_number bs 0 e.bytes) ∙ ap (λ j. bytes_high_first j (number_from_digits 256 bs)) e.size ∙ ap (to_be_bytes w128) (e.word ∙ ap (λ o. word_as o (figures_of value)) (sym e.named))

pub round_trip : (value : Record) (kind : Kind) (rest : List ℕ) → kind_of value ≡ Some kind → first_out_of_range (fields_of kind) 0 (figures_of value) ≡ None → Shaped value → RoundTrip value (encoding value ++ rest)
round_trip value kind rest named none shape =
    let e = encodes value kind named (range_from_none (fields_of kind) 0 (figures_of value) none) shape in
    let front : take 16 (encoding value ++ rest) ≡ encoding value = take_at (encoding value) rest 16 e.size in
    let e' : Encodes value (take 16 (encoding value ++ rest)) = rw front e in
    record { encodes = e'; only = λ bs h. only_encoding value bs h ∙ sym front; reads = exact_to (encoding value ++ rest) 0 value e' }

none_from : (o : Option ℕ) → or_out_of_range o ≡ Ok tt → o ≡ None
none_from None e = refl
none_from (Some field) e = let z : ◌≡◌ {A = ℕ} 0 1 = cc in absurd (omega arith)

checked_parts : (value : Record) (o : Option Kind) → checked_as value o ≡ Ok tt → (kind : Kind) × (o ≡ Some kind) × (first_out_of_range (fields_of kind) 0 (figures_of value) ≡ None)
checked_parts value None e = let z : ◌≡◌ {A = ℕ} 0 1 = cc in absurd (omega arith)
checked_parts value (Some kind) e = (kind, refl, none_from (first_out_of_range (fields_of kind) 0 (figures_of value)) e)

pub checked_round_trip : (value : Record) (rest : List ℕ) → checked value ≡ Ok tt → Shaped value → RoundTrip value (encoding value ++ rest)
checked_round_trip value rest e shape =
    let a = checked_parts value (kind_of value) e in
    round_trip value a.0 rest a.1 a.2 shape

-- a value that some bytes encode passes the check
pub encoded_checked : (value : Record) (bs : List ℕ) → Encodes value bs → checked value ≡ Ok tt
encoded_checked value bs e = ap (checked_as value) e.named ∙ ap or_out_of_range (none_from_range (fields_of e.kind) 0 (figures_of value) e.range)

pub checked_encodes : (value : Record) → checked value ≡ Ok tt → Shaped value → Encodes value (encoding value)
checked_encodes value e shape =
    let a = checked_parts value (kind_of value) e in
    encodes value a.0 a.1 (range_from_none (fields_of a.0) 0 (figures_of value) a.2) shape

-- the room that a refusal of a value in range lacks
room_short : (b : Bool) (refusal : Refusal) → Err refusal ≡ if_room b → b ≡ false
room_short true refusal e = let z : ◌≡◌ {A = ℕ} 0 1 = cc in absurd (omega arith)
room_short false refusal e = refl

pub short : (value : Record) (size : ℕ) (refusal : Refusal) (bs : List ℕ) → Err refusal ≡ writing value size → Encodes value bs → size < 16
short value size refusal bs e h =
    leb-false 16 size (room_short (leb 16 size) refusal (e ∙ ap (then_room (leb 16 size)) (encoded_checked value bs h)))

room_checked : (room : Bool) (o : Result (Unit {0}) Refusal) → Ok tt ≡ then_room room o → o ≡ Ok tt
room_checked room (Ok tt) e = refl
room_checked room (Err refusal) e = let z : ◌≡◌ {A = ℕ} 0 1 = cc in absurd (omega arith)

-- what the answer and the buffer say of the bytes
pub written_encoded : (value : Record) (old new : List ℕ) (r : Result (Unit {0}) SheetFault) → told sheet_refusal r ≡ writing value (length old) → new ≡ written value old r → Shaped value → Encoded value old new r
written_encoded value old new (Ok tt) e b s = rw b (checked_round_trip value (drop 16 old) (room_checked (leb 16 (length old)) (checked value) e) s)
written_encoded value old new (Err fault) e b s = λ bs h. short value (length old) (sheet_refusal fault) bs e h

never : (value : Record) (refusal : Refusal) (bs : List ℕ) → checked value ≡ Err refusal → Encodes value bs → ⊥
never value refusal bs e h = let f = encoded_checked value bs h in let z : ◌≡◌ {A = ℕ} 0 1 = cc in omega arith

pub check_encodable : (value : Record) (r : Result (Unit {0}) RecordFault) → told record_refusal r ≡ checked value → Shaped value → Encodable value r
check_encodable value (Ok tt) e s = checked_encodes value (sym e) s
check_encodable value (Err fault) e s = λ bs h. never value (record_refusal fault) bs (sym e) h
