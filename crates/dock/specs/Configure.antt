-- Configuring a periodic endpoint (`configure_periodic`): max packet size, burst and interval; "interval at least 1 (0 is taken as 1)".
use Rattle.std.specs.Prelude.{ℕ, max, Bool, not, List, [], ◌∷◌, eqb, ⊤, Err}
use Rattle.base.specs.First.{pick, first}
use Rattle.dock.specs.declared.After.{After}
use Rattle.dock.specs.Refusals.{refusal, done}
use Rattle.dock.specs.declared.Endpoint.{Endpoint}
use Rattle.dock.specs.RowOne.{fits}
use Rattle.dock.specs.State.{with_periodic}

-- The refusals of a call that is lent no records: 1, then 12, "a submission's stores are under way".
unfoldable pub plain_tests : Endpoint → List (Bool × ℕ)
plain_tests e = (not (fits e), 1) ∷ (e.work.busy, 12) ∷ []

unfoldable pub plain_no : Endpoint → ℕ
plain_no e = first (plain_tests e)

unfoldable pub configure : Endpoint → ℕ → ℕ → ℕ → After ⊤
configure e packet burst interval =
    pick (eqb (plain_no e) 0)
    (record {
      answer = done;
      endpoint = with_periodic e (record { packet = packet; burst = burst; interval = max 1 interval; frame = e.periodic.frame });
    })
    (record { answer = Err (refusal (plain_no e)); endpoint = e })
