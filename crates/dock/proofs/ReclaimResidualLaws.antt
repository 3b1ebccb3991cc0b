-- The bytes that the dock counts are the bytes moved, for every event that the standard lets a controller write: for a packet, a bulk or interrupt
-- request and a control request's data. Assumes nothing.
use Rattle.std.specs.Prelude.{Some, Ok}
use Prim.Native.Nat.{ℕ, ◌+◌, ◌-◌, ◌%◌, ◌^◌, ◌≤◌, ◌<◌}
use mathlib.Core.Bool.{Bool, true, false, not, false≢true}
use mathlib.Core.List.{List}
use mathlib.Core.Path.{◌≡◌, refl, ap, ◌∙◌, subst}
use native.Mathlib.Omega.{arith}
use borrow.Author.Tests.{eqb-true, eqb-false}
use lib.Dec.{eqb}
use Rattle.trb.specs.Layouts.{words_in}
use Rattle.trb.specs.declared.Words.{Words}
use Rattle.event.specs.Event.{event_of, event_layout}
use Rattle.event.specs.declared.Event.{Event}
use Rattle.event.proofs.EventLaws.{event_reads}
use Rattle.finished.specs.Finished.{finished_at}
use Rattle.records.specs.declared.Record.{Record}
use Rattle.dock.specs.declared.Completion.{Completion}
use Rattle.dock.specs.declared.Endpoint.{Endpoint}
use Rattle.dock.specs.declared.Reclaimed.TheVariants as answer
use Rattle.dock.specs.Worth.{bytes, counts, worth, accepted, moved_bytes}
use Rattle.dock.specs.Residual.{Told, residue, moved, nothing, Tells, success, short_packet, stopped, stopped_short_packet, stopped_length_invalid, Writes, credit}
use Rattle.dock.specs.Reclaim.{complete, code_of, remaining_of, bulk_by, reclaim_bulk, recorded_by, recorded_length}
use Rattle.dock.proofs.RetireLaws.{picked}
use Rattle.dock.proofs.ReclaimAnswerLaws.{done_size, refused_not_done}

-- ---- what a controller may write

-- A controller can tell of any bytes that it moved, at most those asked for, where these are below 2^24.
pub can_write : (t : Told) (requested n : ℕ) → requested < 2 ^ 24 → n ≤ requested → (field : ℕ) × Writes t requested field n
can_write residue requested n small l = (requested - n, record { fits = omega arith; says = omega arith })
can_write moved requested n small l = (n, record { fits = omega arith; says = (refl, l) })
can_write nothing requested n small l = (0, record { fits = omega arith; says = l })

code_small : {code : ℕ} {t : Told} → Tells code t → code < 2 ^ 8
code_small success = omega arith
code_small short_packet = omega arith
code_small stopped = omega arith
code_small stopped_short_packet = omega arith
code_small stopped_length_invalid = omega arith

-- Laid out in the four words of an event, for a TRB at any address and for any slot id and dci, it is read as it was written.
pub can_tell : {code : ℕ} {t : Told} → Tells code t → (slot dci address : ℕ) → slot < 2 ^ 8 → dci < 2 ^ 5 → address < 2 ^ 64
    → (requested n : ℕ) → requested < 2 ^ 24 → n ≤ requested
    → (w : Words) × (field : ℕ)
    × (event_of w ≡ record { form = 32; slot = slot; endpoint = dci; address = address; remaining = field; code = code }) × Writes t requested field n
can_tell {code} {t} says slot dci address a b c requested n small most =
    let written = can_write t requested n small most in
    let event : Event = record { form = 32; slot = slot; endpoint = dci; address = address; remaining = written.0; code = code } in (
      words_in (event_layout event true),
      written.0,
      event_reads event true
          (record { form = omega arith; slot = a; endpoint = b; address = c; remaining = written.1.fits; code = code_small says }),
      written.1,
    )

taken_off : (requested field n : ℕ) → n + field ≡ requested → moved_bytes requested field ≡ n
taken_off requested field n is = omega arith

-- ---- a packet

-- What a packet is worth is what the standard lets its event count for.
pub worth_residual : {code : ℕ} {t : Told} → Tells code t → (requested field n : ℕ) → Writes t requested field n → worth code requested field ≡ bytes (credit t n)
unfolding worth counts
worth_residual success requested field n is = ap bytes (taken_off requested field n is.says)
worth_residual short_packet requested field n is = ap bytes (taken_off requested field n is.says)
worth_residual stopped requested field n is = ap bytes (taken_off requested field n is.says)
worth_residual stopped_short_packet requested field n is = ap bytes is.says.0
worth_residual stopped_length_invalid requested field n is = refl

-- ---- bulk, interrupt and control

-- Where the code is accepted (Success, Short Packet) the length less the field is the bytes moved.
pub moved_residual : {code : ℕ} {t : Told} → Tells code t → accepted code ≡ true → (requested field n : ℕ) → Writes t requested field n → moved_bytes requested field ≡ n
unfolding accepted
moved_residual success a requested field n is = taken_off requested field n is.says
moved_residual short_packet a requested field n is = taken_off requested field n is.says
moved_residual stopped a requested field n is = absurd (false≢true a)
moved_residual stopped_short_packet a requested field n is = absurd (false≢true a)
moved_residual stopped_length_invalid a requested field n is = absurd (false≢true a)

module _ (e : Endpoint) (v : Record) (number : ℕ) (w : Words) (t : Told) (says : Tells (code_of w) t) (n : ℕ) (is : Writes t v.length (remaining_of w) n) where
  -- A bulk or interrupt request that is done reports the bytes moved.
  pub bulk_moved : (finished : List ℕ) (c : Completion) → finished_at finished v.place ≡ Some w → (reclaim_bulk e finished v number).answer ≡ Ok (answer.Done c) → c.length ≡ n
  unfolding reclaim_bulk
  bulk_moved finished c here d = told (accepted (code_of w)) refl (rw here at d)
    where
      told : (b : Bool) → accepted (code_of w) ≡ b → (bulk_by (Some w) e v number).answer ≡ Ok (answer.Done c) → c.length ≡ n
      told true a d = done_size e v number (code_of w) _ _ c d ∙ moved_residual says a v.length (remaining_of w) n is
      told false a d =
          absurd (refused_not_done e v number (code_of w) (moved_bytes v.length (remaining_of w)) c
          (subst (λ (b : Bool). (complete e v number (code_of w) (not b) (moved_bytes v.length (remaining_of w))).answer ≡ Ok (answer.Done c)) a d))

  -- What a data event records is the length that the status event then reports: the bytes moved.
  pub data_moved : accepted (code_of w) ≡ true → v.length < 2 ^ 64 → recorded_length v (recorded_by (Some w) v) ≡ n
  data_moved a fits =
      let same = moved_residual says a v.length (remaining_of w) n is in
      let recorded : ℕ = (moved_bytes v.length (remaining_of w) + 1) % 2 ^ 64 in
      picked (λ (x : ℕ). x ≡ n) (eqb recorded 0) _ _ (λ z. omega (arith, eqb-true recorded 0 z)) (λ z. omega (arith, eqb-false recorded 0 z))
