-- `position_by` meets its contract, by the manner. Assumes nothing.
use Rattle.ring.proofs.position_by.Goals as goal

pub returns-in-Onward : goal.returns-in-Onward
returns-in-Onward c = simp c.in-Onward.is

pub returns-in-Around : goal.returns-in-Around
returns-in-Around c = simp c.in-Around.is

pub returns-in-Again : goal.returns-in-Again
returns-in-Again c = simp c.in-Again.is
