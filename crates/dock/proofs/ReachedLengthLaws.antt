-- In every state that is reached from making no record of a bulk or interrupt request asks for more than 65,536 bytes, and none of a control request for
-- more than 65,535. Assumes nothing.
use Rattle.std.specs.Prelude.{Option, Some, None, Result, ⊤}
use Prim.Native.Nat.{ℕ, zero, suc, ◌+◌, ◌*◌, ◌≤◌, ◌<◌}
use mathlib.Core.Bool.{false}
use mathlib.Core.List.{List}
use mathlib.Core.Logic.{⊎_elim}
use mathlib.Core.Path.{◌≡◌, refl, ◌∙◌}
use native.Mathlib.Omega.{arith}
use borrow.Author.Tests.{eqb-true, ltb-false}
use lib.Dec.{eqb}
use lib.ListN.{length}
use Rattle.base.proofs.Compare.{same_or_not}
use Rattle.sizes.specs.Sizes.{record_count, record_words, longest, longest_control}
use Rattle.mask.specs.declared.Occupancy.{Occupancy}
use Rattle.ids.specs.Lookup.{find_in}
use Rattle.records.specs.Kinds.{kind_number, control, bulk, interrupt, isoch}
use Rattle.records.proofs.KindLaws.{kind_false}
use Rattle.records.specs.States.{stopped}
use Rattle.records.specs.Records.{state_word, cancelled_word, word_at, record_at, set_word}
use Rattle.records.specs.declared.Record.{Record}
use Rattle.records.proofs.RecordLaws.{word_kept}
use Rattle.dock.specs.declared.Refusal.{Refusal}
use Rattle.dock.specs.declared.After.{After}
use Rattle.dock.specs.Refusals.{done}
use Rattle.dock.specs.declared.Identity.{Identity}
use Rattle.dock.specs.declared.Request.{Request}
use Rattle.dock.specs.declared.Shape.{Shape}
use Rattle.dock.specs.declared.What.{What}
use Rattle.dock.specs.declared.What.TheVariants.{Control, Bulk, Interrupt, Isoch}
use Rattle.dock.specs.RowOne.{flies}
use Rattle.dock.specs.Make.{zeros, make_no, make}
use Rattle.dock.specs.Requests.{kind_of}
use Rattle.dock.specs.Start.{too_long, record_taken, start_no, start}
use Rattle.dock.specs.Reclaim.{reclaim}
use Rattle.dock.specs.Cancel.{marked, cancel_no, cancel}
use Rattle.dock.specs.Retire.{retired_below, record_no, retire}
use Rattle.dock.specs.Run.{State, Made, making, Call, configures, starts, stores, submits, hands, reclaims, cancels, retires, begins, ends, stops, resumes, points, after, Reached}
use Rattle.dock.proofs.Reached.{reached_has}
use Rattle.dock.proofs.SubmitLaws.{submit_keeps}
use Rattle.dock.proofs.StartLaws.{start_admitted, record_written, records_kept}
use Rattle.dock.proofs.ReachedSoundLaws.{not_done, Untouched, Looked, reclaim_result}
use Rattle.dock.proofs.ReachedPacketLaws.{zero_at}
use Rattle.dock.proofs.RetireLaws.{picked}

-- "Data length: bulk, interrupt or one packet at most 65,536; control at most 65,535."
abbrev pub Asks : Record → Type 0
Asks v = ((v.kind ≡ isoch → ⊥) → v.length ≤ longest) × (v.kind ≡ control → v.length ≤ longest_control)

abbrev pub Brief : List ℕ → Type 0
Brief records = (r : ℕ) → r < record_count → Asks (record_at records r)

-- ---- calls that leave kinds and lengths

abbrev Keeps : List ℕ → List ℕ → Type 0
Keeps records after = (r : ℕ) → (word_at after r 1 ≡ word_at records r 1) × (word_at after r 6 ≡ word_at records r 6)

brief_kept : (records after : List ℕ) → Keeps records after → Brief records → Brief after
unfolding record_at
brief_kept records after keeps b r l = let k = keeps r in rw (k.0, k.1) (b r l)

word_keeps : (records : List ℕ) (r k value : ℕ) → k < record_words → (k ≡ 1 → ⊥) → (k ≡ 6 → ⊥) → Keeps records (set_word records r k value)
word_keeps records r k value small a b q = (
  word_kept records r k value q 1 (λ e. a (omega arith)),
  word_kept records r k value q 6 (λ e. b (omega arith)),
)

-- A cancel marks,
marked_keeps : (records : List ℕ) (f : Option ℕ) → Keeps records (marked records f)
marked_keeps records None r = (refl, refl)
marked_keeps records (Some q) r = word_keeps records q cancelled_word 1 (omega arith) (λ e. omega arith) (λ e. omega arith) r

cancel_brief : (s : State) (id : ℕ) → Brief s.records → Brief (after s (cancels id)).records
unfolding cancel
cancel_brief s id b =
    let e = s.endpoint in
    picked (λ (a : Result ⊤ Refusal × List ℕ). Brief a.1) (eqb (cancel_no e s.records id) 0) _ _
    (λ t. brief_kept s.records _ (marked_keeps s.records (find_in s.records e.account.occupancy id)) b)
    (λ t. b)

-- a retire stops,
retired_keeps : (n : ℕ) (occupancy : Occupancy) (outstanding : ℕ) (records : List ℕ) → Keeps records (retired_below n occupancy outstanding records).1
unfolding retired_below
retired_keeps zero occupancy outstanding records r = (refl, refl)
retired_keeps (suc n) occupancy outstanding records r =
    let s = retired_below n occupancy outstanding records in
    let before = retired_keeps n occupancy outstanding records r in
    let set = word_keeps s.1 n state_word stopped (omega arith) (λ e. omega arith) (λ e. omega arith) r in
    picked (λ (x : ℕ × List ℕ). (word_at x.1 r 1 ≡ word_at records r 1) × (word_at x.1 r 6 ≡ word_at records r 6)) (flies s.1 occupancy n) _ _
    (λ t. (set.0 ∙ before.0, set.1 ∙ before.1)) (λ t. before)

retire_brief : (s : State) → Brief s.records → Brief (after s retires).records
unfolding retire
retire_brief s b =
    let e = s.endpoint in
    picked (λ (a : After ⊤ × List ℕ). Brief a.1) (eqb (record_no e s.records) 0) _ _
    (λ t. brief_kept s.records _ (retired_keeps record_count e.account.occupancy e.account.outstanding s.records) b)
    (λ t. b)

-- and a reclaim records.
reclaim_brief : (s : State) (id : ℕ) → Brief s.records → Brief (after s (reclaims id)).records
reclaim_brief s id b =
    let t = reclaim s.endpoint s.finished s.records s.packets id in
    ⊎_elim
    (λ (u : Untouched s t). rw u.records b)
    (λ (u : Looked s id t).
    let o = u.touches.own_record in
    brief_kept s.records t.1
    (λ q. ⊎_elim
    (λ (i : q ≡ u.number). rw i (o.own 1 (omega arith) (λ e. omega arith), o.own 6 (omega arith) (λ e. omega arith)))
    (λ (d : q ≡ u.number → ⊥). (o.others q 1 d (omega arith), o.others q 6 d (omega arith)))
    (same_or_not q u.number))
    b)
    (reclaim_result s id)

-- ---- a start

asked : (what : What) (size : ℕ) (lengths : List ℕ) → too_long what size lengths ≡ false
    → ((kind_number (kind_of what) ≡ isoch → ⊥) → size ≤ longest) × (kind_number (kind_of what) ≡ control → size ≤ longest_control)
unfolding too_long
asked (Control type request value index) size lengths t = let l = ltb-false longest_control size t in ((λ d. omega arith), (λ d. l))
asked (Bulk incoming) size lengths t = ((λ d. ltb-false longest size t), (λ d. absurd (kind_false bulk control refl d)))
asked (Interrupt incoming) size lengths t = ((λ d. ltb-false longest size t), (λ d. absurd (kind_false interrupt control refl d)))
asked (Isoch incoming) size lengths t = ((λ d. absurd (d refl)), (λ d. absurd (kind_false isoch control refl d)))

start_brief : (s : State) (request : Request) (lengths : List ℕ) → Brief s.records → Brief (after s (starts request lengths)).records
unfolding start
start_brief s request lengths b =
    let e = s.endpoint in
    picked (λ (a : After ⊤ × List ℕ × List ℕ). Brief a.1) (eqb (start_no e s.records (length s.packets) request lengths) 0) _ _
    (λ t.
    let passed = eqb-true (start_no e s.records (length s.packets) request lengths) 0 t in
    let k = start_admitted e s.records s.packets request lengths passed in
    λ q l.
    ⊎_elim
    (λ (i : q ≡ record_taken e).
    rw (i, record_written e s.records s.packets request lengths passed) (asked request.what request.length lengths k.short))
    (λ (d : q ≡ record_taken e → ⊥). rw (records_kept e s.records s.packets request lengths passed q d) (b q l))
    (same_or_not q (record_taken e)))
    (λ t. b)

-- ---- making

zeros_brief : (l : List ℕ) → Brief (zeros l)
unfolding record_at
zeros_brief l r low =
    let none = zero_at (length l) (record_words * r + 6) in
    ((λ d. omega arith), (λ d. omega arith))

make_brief : (ring finished records packets : List ℕ) (shape : Shape) (who : Identity) → (make ring finished records packets shape who).0.answer ≡ done
    → Brief (make ring finished records packets shape who).3
unfolding make
make_brief ring finished records packets shape who =
    picked (λ (t : After ⊤ × List ℕ × List ℕ × List ℕ × List ℕ). t.0.answer ≡ done → Brief t.3)
    (eqb (make_no (length ring) (length finished) (length records) (length packets) shape who) 0) _ _
    (λ t d. zeros_brief records) (λ t d. absurd (not_done _ d))

made_brief : (s : State) → Made s → Brief s.records
made_brief s (making ring finished records packets shape who done) = make_brief ring finished records packets shape who done

-- ---- the theorem

pub after_brief : (s : State) (c : Call) → Brief s.records → Brief (after s c).records
after_brief s (configures packet burst interval) b = b
after_brief s (starts request lengths) b = start_brief s request lengths b
after_brief s stores b = b
after_brief s (submits request lengths) b =
    submit_keeps (λ (t : State). Brief t.records) (λ t k. k) s request lengths b (start_brief s request lengths b)
after_brief s (hands event) b = b
after_brief s (reclaims id) b = reclaim_brief s id b
after_brief s (cancels id) b = cancel_brief s id b
after_brief s retires b = retire_brief s b
after_brief s begins b = b
after_brief s (ends worked) b = b
after_brief s stops b = b
after_brief s resumes b = b
after_brief s points b = b

pub reached_brief : {s : State} → Reached s → Brief s.records
reached_brief = reached_has (λ (t : State). Brief t.records) made_brief (λ s r. after_brief s)
