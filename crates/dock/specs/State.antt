-- The state that making leaves, and an endpoint with one of its parts exchanged.
use Rattle.std.specs.Prelude.{ℕ, true, false}
use Rattle.mask.specs.Occupancy as masks
use Rattle.ring.specs.declared.Position.{Position}
use Rattle.dock.specs.declared.Account.{Account}
use Rattle.dock.specs.declared.Endpoint.{Endpoint}
use Rattle.dock.specs.declared.Flags.{Flags}
use Rattle.dock.specs.declared.Identity.{Identity}
use Rattle.dock.specs.declared.Periodic.{Periodic}
use Rattle.dock.specs.declared.Shape.{Shape}
use Rattle.dock.specs.declared.Work.{Work}

-- No submission under way.
abbrev pub idle : Work
idle = record { busy = false; number = 0; stored = 0; address = 0; place = 0; cycle = false }

-- "place 0, cycle 1, next id 1, next frame, max packet and burst 0, interval 1, no flag set."
abbrev pub fresh : Shape → Identity → Endpoint
fresh shape who =
    record {
      at = record { place = 0; cycle = true };
      shape = shape;
      who = who;
      periodic = record { packet = 0; burst = 0; interval = 1; frame = 0 };
      account = record { next = 1; occupancy = masks.none; outstanding = 0 };
      flags = record { halted = false; reset = false };
      work = idle;
    }

-- What a making that was refused gives back: no call takes it for an endpoint, for it has no slots.
abbrev pub blank : Endpoint
blank =
    record {
      at = record { place = 0; cycle = false };
      shape = record { slots = 0; base = 0 };
      who = record { slot = 0; dci = 0; mask = 0 };
      periodic = record { packet = 0; burst = 0; interval = 0; frame = 0 };
      account = record { next = 0; occupancy = masks.none; outstanding = 0 };
      flags = record { halted = false; reset = false };
      work = idle;
    }

abbrev pub with_periodic : Endpoint → Periodic → Endpoint
with_periodic e p =
    record { at = e.at; shape = e.shape; who = e.who; periodic = p; account = e.account; flags = e.flags; work = e.work }

abbrev pub with_flags : Endpoint → Flags → Endpoint
with_flags e f =
    record { at = e.at; shape = e.shape; who = e.who; periodic = e.periodic; account = e.account; flags = f; work = e.work }

abbrev pub with_account : Endpoint → Account → Endpoint
with_account e a =
    record { at = e.at; shape = e.shape; who = e.who; periodic = e.periodic; account = a; flags = e.flags; work = e.work }

-- What the start of a submission changes.
abbrev pub with_work : Endpoint → Account → Work → Endpoint
with_work e a w =
    record { at = e.at; shape = e.shape; who = e.who; periodic = e.periodic; account = a; flags = e.flags; work = w }

-- What a store changes: position, next frame, and the submission under way.
abbrev pub with_store : Endpoint → Position → ℕ → Work → Endpoint
with_store e p frame w =
    record {
      at = p;
      shape = e.shape;
      who = e.who;
      periodic =
          record { packet = e.periodic.packet; burst = e.periodic.burst; interval = e.periodic.interval; frame = frame };
      account = e.account;
      flags = e.flags;
      work = w;
    }
