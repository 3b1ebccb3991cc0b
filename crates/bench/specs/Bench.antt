-- What shows and forges: the lines of a drive that call nothing of the dock.
use Rattle.std.specs.Prelude.{ℕ, ◌/◌, Bool, true, false, List, [], ◌∷◌, ltb, length, set}
use Rattle.base.specs.First.{pick}
use Rattle.trb.specs.Layouts.{words_at}
use Rattle.dock.specs.declared.Endpoint.{Endpoint}
use Rattle.dock.specs.State.{with_account}
use Rattle.page.specs.Page.{Page, put_all}
use Rattle.words.specs.declared.Word.{Word}
use Rattle.words.specs.declared.Word.TheVariants as words
use Rattle.phrases.specs.Text.{slot_line, state_line}
use Rattle.values.specs.declared.Next.{Next}
use Rattle.values.specs.declared.Next.TheVariants.{On, New, Bad}
use Rattle.values.specs.declared.Turn.{Turn}
use Rattle.values.specs.Values.{value, word}

-- slot.
abbrev pub slot_text : List ℕ
slot_text = 115 ∷ 108 ∷ 111 ∷ 116 ∷ []

-- Another next id, "as a forged state would have it".
abbrev pub with_next : Endpoint → ℕ → Endpoint
with_next e next =
    with_account e (record { next = next; occupancy = e.account.occupancy; outstanding = e.account.outstanding })

-- A word of a table is forged, where the table has it.
unfoldable pub forged : {A : Type 0} → List A → ℕ → A → Bool × List A
forged table i w = pick (ltb i (length table)) (true, set table i w) (false, table)

-- What a line leaves, and how the session goes on.
abbrev pub leaves : Endpoint → Next → Turn
leaves e next = record { e = e; next = next }

-- `poke`: "an index past the table's end .. is `bad`".
abbrev pub poked : Bool → Next
poked true = On
poked false = Bad

unfoldable pub serve_poke : Endpoint → List ℕ → List ℕ → List ℕ → List ℕ → Word → List ℕ → Turn × List ℕ × List ℕ × List ℕ × List ℕ
serve_poke e ring finished records packets words.Ring values =
    let a = forged ring (value values 0) (word (value values 1)) in (leaves e (poked a.0), a.1, finished, records, packets)
serve_poke e ring finished records packets words.Finished values =
    let a = forged finished (value values 0) (word (value values 1)) in (leaves e (poked a.0), ring, a.1, records, packets)
serve_poke e ring finished records packets words.Records values =
    let a = forged records (value values 0) (value values 1) in (leaves e (poked a.0), ring, finished, a.1, packets)
serve_poke e ring finished records packets name values =
    let a = forged packets (value values 0) (value values 1) in (leaves e (poked a.0), ring, finished, records, a.1)

-- What shows and forges: `slot`, `state`, `nextid`, `new`.
unfoldable pub is_tool : Word → Bool
is_tool words.Slot = true
is_tool words.State = true
is_tool words.NextId = true
is_tool words.New = true
is_tool w = false

-- "An i of L or more is `bad`."
unfoldable pub serve_slot : Endpoint → List ℕ → ℕ → Page → Turn × Page
serve_slot e ring i p =
    pick (ltb i (length ring / 4)) (leaves e On, put_all p (slot_line slot_text i (words_at ring i))) (leaves e Bad, p)

unfoldable pub serve_tools : Endpoint → List ℕ → Word → List ℕ → Page → Turn × Page
serve_tools e ring words.Slot values p = serve_slot e ring (value values 0) p
serve_tools e ring words.State values p = (leaves e On, put_all p (state_line e))
serve_tools e ring words.NextId values p = (leaves (with_next e (value values 0)) On, p)
serve_tools e ring w values p = (leaves e New, p)
