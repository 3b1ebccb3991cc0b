-- A request as eight words: kind (0 control, 1 bulk, 2 interrupt, 3 isochronous), direction (not 0: in), request type, request, value, index,
-- address, length. A control request's direction stands in its type; the others have no setup, and the words of one are not read.
use Rattle.std.specs.Prelude.{ℕ, ◌<◌, ◌^◌, Bool, ◌&&◌, List, eqb, ltb, length, get_or, Result, Ok, Err}
use Rattle.base.specs.First.{pick}
use Rattle.sizes.specs.Sizes.{control_number, bulk_number, interrupt_number}
use Rattle.records.specs.Records.{is_set}
use Rattle.dock.specs.declared.Refusal.{Refusal}
use Rattle.dock.specs.declared.Refusal.TheVariants.{Unfit}
use Rattle.dock.specs.declared.Request.{Request}
use Rattle.dock.specs.declared.What.{What}
use Rattle.dock.specs.declared.What.TheVariants.{Control, Bulk, Interrupt, Isoch}

abbrev pub request_words : ℕ
request_words = 8

-- The words of a setup fit its fields: type and request one byte, value and index two.
abbrev pub is_setup : List ℕ → Bool
is_setup w = ltb (get_or w 2 0) (2 ^ 8) && ltb (get_or w 3 0) (2 ^ 8) && ltb (get_or w 4 0) (2 ^ 16) && ltb (get_or w 5 0) (2 ^ 16)

-- Eight words whose kind is one of the four; of a control request those of a setup fit it.
unfoldable pub is_request : List ℕ → Bool
is_request w = eqb (length w) request_words && pick (eqb (get_or w 0 0) control_number) (is_setup w) (ltb (get_or w 0 0) 4)

-- The test of a setup, as facts.
pub record Setup (w : List ℕ) : Type 0 where
  pub type : get_or w 2 0 < 2 ^ 8
  pub request : get_or w 3 0 < 2 ^ 8
  pub value : get_or w 4 0 < 2 ^ 16
  pub index : get_or w 5 0 < 2 ^ 16

abbrev pub setup_of : List ℕ → What
setup_of w = Control (get_or w 2 0) (get_or w 3 0) (get_or w 4 0) (get_or w 5 0)

abbrev pub transfer_by : ℕ → Bool → What
transfer_by kind incoming = pick (eqb kind bulk_number) (Bulk incoming) (pick (eqb kind interrupt_number) (Interrupt incoming) (Isoch incoming))

unfoldable pub what_of : List ℕ → What
what_of w = pick (eqb (get_or w 0 0) control_number) (setup_of w) (transfer_by (get_or w 0 0) (is_set (get_or w 1 0)))

abbrev pub request_of : List ℕ → Request
request_of w = record { what = what_of w; address = get_or w 6 0; length = get_or w 7 0 }

-- The request of words that are a request's; else the refusal that answers 1.
unfoldable pub parsed : List ℕ → Result Request Refusal
parsed w = pick (is_request w) (Ok (request_of w)) (Err Unfit)
