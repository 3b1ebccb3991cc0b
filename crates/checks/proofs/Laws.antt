-- What an endpoint that passes the shared tests has, as the callers need it, from the facts that the tests decide (`dock`, RefusalTestLaws). Assumes nothing.
use Prim.Native.Nat.{ℕ, ◌+◌, ◌≤◌, ◌<◌}
use mathlib.Core.Bool.{Bool, true, false, ◌&&◌, false≢true}
use mathlib.Core.List.{List}
use mathlib.Core.Logic.{⊎_elim}
use mathlib.Core.Path.{◌≡◌, refl, sym, ◌∙◌}
use native.Mathlib.Omega.{arith}
use borrow.Author.Tests.{ltb-true}
use lib.Dec.{eqb, ltb}
use lib.ListN.{length}
use Rattle.base.proofs.Decide.{if_so}
use Rattle.dock.proofs.RefusalTestLaws.{Limits, PlaceFits, by_fits, by_fits_with}
use Rattle.sizes.specs.Sizes.{records_size, packet_count}
use Rattle.base.specs.First.{pick}
use Rattle.records.specs.Kinds.{kind_is, control, bulk, interrupt, isoch}
use Rattle.records.specs.declared.Record.{Record}
use Rattle.dock.specs.RowOne.{fits, the_link, the_trb, the_first, none, next_of, strays, fits_with}
use Rattle.dock.specs.Trbs.{trb_count, deferred}
use Rattle.dock.specs.declared.Endpoint.{Endpoint}

-- ---- an endpoint that fits

-- The place of the next store.
pub record Places (e : Endpoint) : Type 0 where
  pub here : e.at.place + 1 ≤ e.shape.slots
  pub idle : e.work.busy ≡ false → e.at.place + 1 < e.shape.slots

places : (e : Endpoint) → PlaceFits e → Places e
places e here = record {
  here = ⊎_elim (λ (h : e.at.place + 1 < e.shape.slots). omega arith) (λ h. omega (arith, h.0.0)) here;
  idle = λ b. ⊎_elim (λ (h : e.at.place + 1 < e.shape.slots). h) (λ h. absurd (false≢true (sym b ∙ h.0.1))) here;
}

-- What `fits` tells of an endpoint.
pub record Fit (e : Endpoint) : Type 0 where
  pub limits : Limits e.shape e.who
  pub places : Places e
  pub next : 0 < e.account.next

pub fit : (e : Endpoint) → fits e ≡ true → Fit e
fit e t =
    let f = (by_fits e).so t in
    record { limits = f.limits; places = places e f.place; next = let n = f.next in omega arith }

-- What `fits_with` tells.
pub record FitWith (e : Endpoint) (records : List ℕ) : Type 0 where
  pub fit : fits e ≡ true
  pub size : length records ≡ records_size
  pub kept : strays e records ≡ false

pub fit_with : (e : Endpoint) (records : List ℕ) → fits_with e records ≡ true → FitWith e records
fit_with e records t =
    let f = (by_fits_with e records).so t in
    record { fit = if_so (by_fits e) f.endpoint; size = f.size; kept = f.course }

-- ---- the TRBs of a request

pick_le : (b : Bool) (x y n : ℕ) → x ≤ n → y ≤ n → pick b x y ≤ n
pick_le true x y n p q = p
pick_le false x y n p q = q

-- No request has over 64.
pub count_most : (v : Record) → trb_count v ≤ packet_count
unfolding trb_count
count_most v =
    pick_le (kind_is v.kind control) _ _ packet_count (pick_le (eqb v.length 0) 2 3 packet_count (omega arith) (omega arith))
    (pick_le (kind_is v.kind isoch) _ _ packet_count (omega arith)
    (pick_le (kind_is v.kind bulk) _ _ packet_count (omega arith) (pick_le (kind_is v.kind interrupt) 1 0 packet_count (omega arith) (omega arith))))

second : (a b c : Bool) → pick a the_link (pick b the_trb (pick c the_first none)) ≡ the_trb → b ≡ true
second true b c e = let z : ◌≡◌ {A = ℕ} 0 1 = cc in absurd (omega arith)
second false true c e = refl
second false false true e = let z : ◌≡◌ {A = ℕ} 0 1 = cc in absurd (omega arith)
second false false false e = let z : ◌≡◌ {A = ℕ} 0 1 = cc in absurd (omega arith)

-- Where the next store is a TRB, one is left.
pub trb_left : (e : Endpoint) (v : Record) → next_of e v ≡ the_trb → e.work.stored < trb_count v
unfolding next_of
trb_left e v t =
    let link = eqb (e.at.place + 1) e.shape.slots in
    let again = deferred v && eqb e.work.stored (trb_count v) in
    ltb-true _ _ (second link (ltb e.work.stored (trb_count v)) again t)
