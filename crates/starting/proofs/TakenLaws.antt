-- What an admitted start takes and leaves is what `dock` defines. Assumes nothing.
use Prim.Native.Nat.{ℕ}
use mathlib.Core.List.{List}
use mathlib.Core.Path.{◌≡◌, refl, ap, ◌∙◌}
use lib.ListN.{length}
use Rattle.mask.specs.Occupancy.{lowest}
use Rattle.dock.specs.Requests.{record_for}
use Rattle.dock.specs.Start.{number_from, record_taken, id_taken, charged, write_packets, started_endpoint, started_records}
use Rattle.dock.specs.declared.Endpoint.{Endpoint}
use Rattle.dock.specs.declared.Request.{Request}
use Rattle.starting.specs.Taken.{started_by, taken_with, begun_with}
use Rattle.starting.specs.declared.Begun.{Begun}

-- What an admitted start takes, as the code makes it,
pub taken_is : (e : Endpoint) (records : List ℕ) (request : Request) (lengths : List ℕ)
    → taken_with e records request (length lengths)
    ≡ (
      record { endpoint = started_endpoint e records request lengths; kept = record_for request (length lengths) (id_taken e records) e.at.place },
      started_records e records request lengths,
    )
unfolding taken_with started_by started_endpoint started_records record_taken id_taken charged
taken_is e records request lengths = refl

abbrev left : Begun × List ℕ → List ℕ → Endpoint × List ℕ × List ℕ
left b packets = (b.0.endpoint, b.1, packets)

-- and all that it leaves.
pub begun_by_lem : (e : Endpoint) (records packets : List ℕ) (request : Request) (lengths : List ℕ) {b : Begun} {number : ℕ} {records₁ packets₁ : List ℕ}
    → ◌≡◌ {A = Begun × List ℕ} (b, records₁) (taken_with e records request (length lengths)) → number ≡ number_from (lowest e.account.occupancy)
    → packets₁ ≡ write_packets packets number request.what lengths
    → ◌≡◌ {A = Endpoint × List ℕ × List ℕ} (b.endpoint, records₁, packets₁) (begun_with e records packets request lengths)
unfolding begun_with record_taken
begun_by_lem e records packets request lengths {b} {number} {records₁} {packets₁} taken is wrote =
    ap (left (b, records₁)) (wrote ∙ ap (λ (n : ℕ). write_packets packets n request.what lengths) is)
    ∙ ap (λ (x : Begun × List ℕ). left x (write_packets packets (record_taken e) request.what lengths)) (taken ∙ taken_is e records request lengths)
