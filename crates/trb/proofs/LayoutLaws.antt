-- Of every TRB, with every value and either cycle bit: the fields of a word do not overlap and fit its 32 bits (`layouts_sound`, computed), so each
-- field reads back from its word (`reads_back`), each word fits 32 bits, and cycle bit and type are what was asked for. Assumes nothing.
use Prim.Native.Nat.{ℕ, zero, suc, ◌/◌, ◌%◌, ◌^◌, ◌<◌}
use mathlib.Core.Bool.{Bool, true, ◌&&◌, and-eq-true_iff}
use mathlib.Core.List.{List, []}
use mathlib.Core.Path.{◌≡◌, refl, ap, ◌∙◌, subst}
use native.Mathlib.Nat.{mod-eq_of_lt}
use native.Mathlib.Omega.{arith}
use lib.Dec.{eqb}
use lib.ListN.{length, get_or}
use Rattle.base.specs.Fields.{Field, field, flag, word, bits, rising}
use Rattle.base.proofs.ReadBack.{read_back, word_below, flag_read}
use Rattle.trb.specs.Layouts.{Layout, layout, words_of, listed, type_number}
use Rattle.trb.specs.Cycle.{cycle_of, type_of, toggles, points_to}
use Rattle.trb.specs.declared.Trb.{Trb}
use Rattle.trb.specs.declared.Trb.TheVariants.{Normal, Setup, Data, Status, Isoch, Link, ResetEndpoint, StopEndpoint, SetDequeue}

-- The fields of a word of a layout.
abbrev pub fields_at : Layout → ℕ → List Field
fields_at l zero = l.w0
fields_at l (suc zero) = l.w1
fields_at l (suc (suc zero)) = l.w2
fields_at l (suc (suc (suc zero))) = l.w3
fields_at l (suc (suc (suc (suc i)))) = []

-- In each word the fields stand in rising order, none reaches into the next, and none beyond bit 32.
abbrev pub sound : Layout → Bool
sound l = rising 0 32 l.w0 && rising 0 32 l.w1 && rising 0 32 l.w2 && rising 0 32 l.w3

pub layouts_sound : (t : Trb) (cycle : Bool) → sound (layout t cycle) ≡ true
layouts_sound (Normal address size span target short chain interrupt) cycle = refl
layouts_sound (Setup type request value index size transfer) cycle = refl
layouts_sound (Data address size short incoming) cycle = refl
layouts_sound (Status interrupt incoming) cycle = refl
layouts_sound (Isoch address size bursts target short chain interrupt block last frame asap) cycle = refl
layouts_sound (Link address toggle chain) cycle = refl
layouts_sound (ResetEndpoint endpoint slot) cycle = refl
layouts_sound (StopEndpoint endpoint slot) cycle = refl
layouts_sound (SetDequeue address state endpoint slot) cycle = refl

each_rises : (l : Layout) (i : ℕ) → i < 4 → sound l ≡ true → rising 0 32 (fields_at l i) ≡ true
each_rises l i h s =
    let last = (and-eq-true_iff _ (rising 0 32 l.w3)).0 s in
    let third = (and-eq-true_iff _ (rising 0 32 l.w2)).0 last.0 in
    let second = (and-eq-true_iff (rising 0 32 l.w0) (rising 0 32 l.w1)).0 third.0 in
    chosen i h second.0 second.1 third.1 last.1
  where
    chosen : (i : ℕ) → i < 4 → rising 0 32 l.w0 ≡ true → rising 0 32 l.w1 ≡ true → rising 0 32 l.w2 ≡ true → rising 0 32 l.w3 ≡ true
        → rising 0 32 (fields_at l i) ≡ true
    chosen zero h a b c d = a
    chosen (suc zero) h a b c d = b
    chosen (suc (suc zero)) h a b c d = c
    chosen (suc (suc (suc zero))) h a b c d = d
    chosen (suc (suc (suc (suc i)))) h a b c d = absurd (omega arith)

word_at : (t : Trb) (cycle : Bool) (i : ℕ) → i < 4 → get_or (listed (words_of t cycle)) i 0 ≡ word (fields_at (layout t cycle) i)
unfolding words_of
word_at t cycle zero h = refl
word_at t cycle (suc zero) h = refl
word_at t cycle (suc (suc zero)) h = refl
word_at t cycle (suc (suc (suc zero))) h = refl
word_at t cycle (suc (suc (suc (suc i)))) h = absurd (omega arith)

module _ (t : Trb) (cycle : Bool) (i : ℕ) (h : i < 4) where
  rises : rising 0 32 (fields_at (layout t cycle) i) ≡ true
  rises = each_rises (layout t cycle) i h (layouts_sound t cycle)

  -- Field k of word i, of any TRB: its bits are its value, cut to its width.
  pub reads_back : (k : ℕ) → k < length (fields_at (layout t cycle) i)
      → let f = get_or (fields_at (layout t cycle) i) k (field 0 0 0) in
      bits f.at f.wide (get_or (listed (words_of t cycle)) i 0) ≡ f.value % 2 ^ f.wide
  reads_back k l =
      let f = get_or (fields_at (layout t cycle) i) k (field 0 0 0) in
      ap (bits f.at f.wide) (word_at t cycle i h) ∙ read_back 0 32 (fields_at (layout t cycle) i) k rises l

  -- Each word fits 32 bits.
  pub word_fits : get_or (listed (words_of t cycle)) i 0 < 2 ^ 32
  word_fits = rw (word_at t cycle i h) (word_below 0 32 (fields_at (layout t cycle) i) rises)

-- ---- cycle bit and type

-- Where the type stands in w3 among its fields.
type_index : Trb → ℕ
type_index (Normal address size span target short chain interrupt) = 4
type_index (Setup type request value index size transfer) = 2
type_index (Data address size short incoming) = 2
type_index (Status interrupt incoming) = 2
type_index (Isoch address size bursts target short chain interrupt block last frame asap) = 5
type_index (Link address toggle chain) = 3
type_index (ResetEndpoint endpoint slot) = 1
type_index (StopEndpoint endpoint slot) = 1
type_index (SetDequeue address state endpoint slot) = 1

-- The first field of w3 is the cycle bit, and the type stands where `type_index` says.
record Headed (t : Trb) (cycle : Bool) : Type 0 where
  first : get_or (layout t cycle).w3 0 (field 0 0 0) ≡ field 0 1 (flag cycle)
  type : get_or (layout t cycle).w3 (type_index t) (field 0 0 0) ≡ field 10 6 (type_number t)
  within : type_index t < length (layout t cycle).w3
  small : type_number t < 2 ^ 6

headed : (t : Trb) (cycle : Bool) → Headed t cycle
unfolding type_index
headed (Normal address size span target short chain interrupt) cycle = record { first = refl; type = refl; within = omega arith; small = omega arith }
headed (Setup type request value index size transfer) cycle = record { first = refl; type = refl; within = omega arith; small = omega arith }
headed (Data address size short incoming) cycle = record { first = refl; type = refl; within = omega arith; small = omega arith }
headed (Status interrupt incoming) cycle = record { first = refl; type = refl; within = omega arith; small = omega arith }
headed (Isoch address size bursts target short chain interrupt block last frame asap) cycle = record { first = refl; type = refl; within = omega arith; small = omega arith }
headed (Link address toggle chain) cycle = record { first = refl; type = refl; within = omega arith; small = omega arith }
headed (ResetEndpoint endpoint slot) cycle = record { first = refl; type = refl; within = omega arith; small = omega arith }
headed (StopEndpoint endpoint slot) cycle = record { first = refl; type = refl; within = omega arith; small = omega arith }
headed (SetDequeue address state endpoint slot) cycle = record { first = refl; type = refl; within = omega arith; small = omega arith }

-- A field that is known, read back.
known : (w : ℕ) (f g : Field) → f ≡ g → bits f.at f.wide w ≡ f.value % 2 ^ f.wide → bits g.at g.wide w ≡ g.value % 2 ^ g.wide
known w f g e r = subst (λ (x : Field). bits x.at x.wide w ≡ x.value % 2 ^ x.wide) e r

module _ (t : Trb) (cycle : Bool) where
  in_w3 : (k : ℕ) (g : Field) → get_or (layout t cycle).w3 k (field 0 0 0) ≡ g → k < length (layout t cycle).w3
      → bits g.at g.wide (words_of t cycle).w3 ≡ g.value % 2 ^ g.wide
  in_w3 k g e l = known (words_of t cycle).w3 (get_or (layout t cycle).w3 k (field 0 0 0)) g e (reads_back t cycle 3 (omega arith) k l)

  -- The cycle bit is the one that was asked for.
  pub cycle_is : cycle_of (words_of t cycle) ≡ cycle
  unfolding cycle_of
  cycle_is =
      let some : 0 < length (layout t cycle).w3 = omega (arith, (headed t cycle).within) in
      ap (λ (n : ℕ). eqb n 1) (in_w3 0 (field 0 1 (flag cycle)) (headed t cycle).first some) ∙ flag_read cycle

  -- The type is the TRB's.
  pub type_is : type_of (words_of t cycle) ≡ type_number t
  unfolding type_of
  type_is =
      in_w3 (type_index t) (field 10 6 (type_number t)) (headed t cycle).type (headed t cycle).within ∙ mod-eq_of_lt (headed t cycle).small

-- ---- the link

module _ (address : ℕ) (toggle chain cycle : Bool) where
  abbrev the_link : Trb
  the_link = Link address toggle chain

  pub toggle_is : toggles (words_of the_link cycle) ≡ toggle
  unfolding toggles
  toggle_is = ap (λ (n : ℕ). eqb n 1) (reads_back the_link cycle 3 (omega arith) 1 (omega arith)) ∙ flag_read toggle

  high_word : address < 2 ^ 64 → (words_of the_link cycle).w1 ≡ address / 2 ^ 32
  unfolding words_of
  high_word fits = omega arith

  -- A link whose address is a multiple of 16 points there.
  pub points : address % 16 ≡ 0 → address < 2 ^ 64 → points_to (words_of the_link cycle) ≡ address
  unfolding points_to
  points even fits =
      let lower : bits 4 28 (words_of the_link cycle).w0 ≡ address / 16 % 2 ^ 28 = reads_back the_link cycle 0 (omega arith) 1 (omega arith) in
      let upper : (words_of the_link cycle).w1 ≡ address / 2 ^ 32 = high_word fits in
      rw (lower, upper) (omega arith)
