-- Each exported call: the call of its name, on the endpoint that the words say. Its number is returned; the endpoint's words are those of the
-- endpoint afterwards where the answer changes it, else as they were; the answer's words are told anew. Words of a wrong length or too wide for
-- their fields, and a request of no kind, are answered 1 and leave everything; making asks the length only, and after its limits.
use Rattle.std.specs.Prelude.{ℕ, Bool, ◌&&◌, List, eqb, length}
use Rattle.base.specs.First.{pick}
use Rattle.records.specs.Records.{is_set}
use Rattle.dock.specs.declared.Identity.{Identity}
use Rattle.dock.specs.declared.Shape.{Shape}
use Rattle.dock.specs.Numbers.{outcome_number, stored_number, submitted_number, taken_number, resetting_number, command_number, pointed_number}
use Rattle.dock.specs.Make.{make}
use Rattle.dock.specs.Configure.{configure}
use Rattle.dock.specs.Start.{start}
use Rattle.dock.specs.NextStore.{store}
use Rattle.dock.specs.Submit.{submit}
use Rattle.dock.specs.HandOver.{hand_over}
use Rattle.dock.specs.Reclaim.{reclaim}
use Rattle.dock.specs.Cancel.{cancel}
use Rattle.dock.specs.Retire.{retire}
use Rattle.dock.specs.Reset.{begin_reset, end_reset}
use Rattle.dock.specs.Commands.{stop, resume, pointer}
use Rattle.loaded.specs.State.{state_words, is_state, load}
use Rattle.told.specs.Request.{is_request, request_of}
use Rattle.told.specs.Answer.{answer_words, told_of, spoken, reclaimed_told}
use Rattle.saved.specs.Settle.{numbered, told, unmade}

-- The words of a call that has values to tell: an endpoint's, and as many as an answer has.
abbrev pub are_words : List ℕ → List ℕ → Bool
are_words state answer = is_state state && eqb (length answer) answer_words

-- ---- building

-- The ring's numbers and the identity, from the numbers that the call is given.
abbrev pub shape_given : ℕ → ℕ → Shape
shape_given slots base = record { slots = slots; base = base }

abbrev pub identity_given : ℕ → ℕ → ℕ → Identity
identity_given mask slot dci = record { slot = slot; dci = dci; mask = mask }

unfoldable pub made : List ℕ → List ℕ → List ℕ → List ℕ → List ℕ → Shape → Identity
    → ℕ × List ℕ × List ℕ × List ℕ × List ℕ × List ℕ
made state ring finished records packets shape who =
    let m = make ring finished records packets shape who in
    let n = numbered state m.0 in
    pick (eqb (length state) state_words) (n.0, n.1, m.1, m.2, m.3, m.4) (unmade shape who, state, ring, finished, records, packets)

unfoldable pub configured : List ℕ → ℕ → ℕ → ℕ → ℕ × List ℕ
configured state packet burst interval =
    pick (is_state state) (numbered state (configure (load state) packet burst interval)) (1, state)

unfoldable pub started : List ℕ → List ℕ → List ℕ → List ℕ → List ℕ → ℕ × List ℕ × List ℕ × List ℕ
started state records packets request lengths =
    let s = start (load state) records packets (request_of request) lengths in
    let n = numbered state s.0 in
    pick (is_state state && is_request request) (n.0, n.1, s.1, s.2) (1, state, records, packets)

unfoldable pub stored_one : List ℕ → List ℕ → List ℕ → List ℕ → List ℕ → List ℕ → ℕ × List ℕ × List ℕ × List ℕ × List ℕ
stored_one state answer ring finished records packets =
    let s = store (load state) ring finished records packets in
    let t = told state (told_of (stored_number s.0.answer)) s.0.endpoint in
    pick (are_words state answer) (t.0, t.1, t.2, s.1, s.2) (1, state, answer, ring, finished)

unfoldable pub submitted : List ℕ → List ℕ → List ℕ → List ℕ → List ℕ → List ℕ → List ℕ → List ℕ
    → ℕ × List ℕ × List ℕ × List ℕ × List ℕ × List ℕ × List ℕ
submitted state answer ring finished records packets request lengths =
    let s = submit (load state) ring finished records packets (request_of request) lengths in
    let t = told state (told_of (submitted_number s.0.answer)) s.0.endpoint in
    pick (are_words state answer && is_request request) (t.0, t.1, t.2, s.1, s.2, s.3, s.4)
    (1, state, answer, ring, finished, records, packets)

-- ---- completion

unfoldable pub handed_over : List ℕ → List ℕ → List ℕ → ℕ → ℕ → ℕ → ℕ → ℕ × List ℕ × List ℕ
handed_over state answer finished w0 w1 w2 w3 =
    let h = hand_over (load state) finished (record { w0 = w0; w1 = w1; w2 = w2; w3 = w3 }) in
    let t = spoken (told_of (taken_number h.0)) in
    pick (are_words state answer) (t.0, t.1, h.1) (1, answer, finished)

unfoldable pub reclaimed : List ℕ → List ℕ → List ℕ → List ℕ → List ℕ → ℕ → ℕ × List ℕ × List ℕ × List ℕ × List ℕ
reclaimed state answer finished records packets id =
    let r = reclaim (load state) finished records packets id in
    let t = told state (told_of (reclaimed_told r.0.answer)) r.0.endpoint in
    pick (are_words state answer) (t.0, t.1, t.2, r.1, r.2) (1, state, answer, records, packets)

unfoldable pub cancelled : List ℕ → List ℕ → ℕ → ℕ × List ℕ
cancelled state records id =
    let c = cancel (load state) records id in
    pick (is_state state) ((outcome_number c.0).0, c.1) (1, records)

-- ---- stop and reset

unfoldable pub retired : List ℕ → List ℕ → ℕ × List ℕ × List ℕ
retired state records =
    let c = retire (load state) records in
    let n = numbered state c.0 in
    pick (is_state state) (n.0, n.1, c.1) (1, state, records)

unfoldable pub reset_begun : List ℕ → List ℕ → List ℕ → ℕ × List ℕ × List ℕ
reset_begun state answer records =
    let b = begin_reset (load state) records in
    pick (are_words state answer) (told state (told_of (resetting_number b.answer)) b.endpoint) (1, state, answer)

unfoldable pub reset_ended : List ℕ → ℕ → ℕ × List ℕ
reset_ended state worked = pick (is_state state) (numbered state (end_reset (load state) (is_set worked))) (1, state)

unfoldable pub stopped : List ℕ → List ℕ → ℕ × List ℕ
stopped state answer = pick (are_words state answer) (spoken (told_of (command_number (stop (load state))))) (1, answer)

unfoldable pub resumed : List ℕ → List ℕ → ℕ × List ℕ
resumed state answer = pick (are_words state answer) (spoken (told_of (command_number (resume (load state))))) (1, answer)

unfoldable pub pointed : List ℕ → List ℕ → ℕ × List ℕ
pointed state answer = pick (are_words state answer) (spoken (told_of (pointed_number (pointer (load state))))) (1, answer)
