-- The kinds of a request, and their words in its record. Whatever a kind word says is one of the four, or none; the record has the word.
use Rattle.std.specs.Prelude.{ℕ, Bool, Option, Some, None, eqb}
use Rattle.base.specs.First.{pick}
use Rattle.sizes.specs.Sizes.{control_number, bulk_number, interrupt_number, isoch_number}
use Rattle.records.specs.declared.Kind.{Kind}
use Rattle.records.specs.declared.Kind.TheVariants.{Control, Bulk, Interrupt, Isoch}

abbrev pub kind_number : Kind → ℕ
kind_number Control = control_number
kind_number Bulk = bulk_number
kind_number Interrupt = interrupt_number
kind_number Isoch = isoch_number

-- The kind that a word says.
abbrev pub kind_in : ℕ → Option Kind
kind_in word =
    pick (eqb word control_number) (Some Control)
    (pick (eqb word bulk_number) (Some Bulk)
    (pick (eqb word interrupt_number) (Some Interrupt)
    (pick (eqb word isoch_number) (Some Isoch) None)))

-- The word of a kind; none is 4, which says none.
abbrev pub word_of_kind : Option Kind → ℕ
word_of_kind None = 4
word_of_kind (Some kind) = kind_number kind

-- Whether two kind words are the same.
abbrev pub kind_is : ℕ → ℕ → Bool
kind_is kind this = eqb kind this

-- The four kinds, as a record's field has them.
abbrev pub control : ℕ
control = control_number

abbrev pub bulk : ℕ
bulk = bulk_number

abbrev pub interrupt : ℕ
interrupt = interrupt_number

abbrev pub isoch : ℕ
isoch = isoch_number
