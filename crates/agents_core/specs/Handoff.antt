-- Items that one thread hands to another: docs/ARCHITECTURE.md, "Agents". What was put is what was taken and then what
-- waits.
use Rattle.std.specs.Prelude.{◌≡◌, ℕ, Bool, true, false, List, [], ◌++◌, length}
use mathlib.Core.Option.{some}
use lib.ListN.{get_elem?}
use Rattle.atomic_table.specs.Seated.{TableId}
use Rattle.crossbeam_queue.specs.Passes.{Pass, view}
use Rattle.agents_core.specs.declared.handoff.Passed.{Passed}

-- the end that puts: of which handoff, and what it has put
pub record PutterView (T : Type 0) : Type 0 where
  pub handoff : TableId
  pub put : List T

-- the end that takes: of which handoff, and what it has taken
pub record TakerView (T : Type 0) : Type 0 where
  pub handoff : TableId
  pub taken : List T

module _ {T : Type 0} where
  -- what an end knows
  abbrev pub known_by : Pass T (Passed T) → Passed T
  known_by pass = view pass

  abbrev pub passed : Bool → Bool → List T → List T → Passed T
  passed puts takes put taken = record { puts = puts; takes = takes; put = put; taken = taken }

  -- what is left of it to the end that puts, and to the one that takes
  abbrev pub putting : Passed T → Passed T
  putting v = passed true false v.put []

  abbrev pub taking : Passed T → Passed T
  taking v = passed false true [] v.taken

  -- At a moment as many items waited as there is room for, the last of those that were put; so that many were put.
  pub record WasFull (put : List T) : Type 0 where
    pub taken : List T
    pub waiting : List T
    pub order : put ≡ taken ++ waiting
    pub full : length waiting ≡ 16

  -- one end puts and has the list of what was put; one takes and has the list of what was taken
  pub record FitsEnds (putter taker : ℕ) (put taken : List T) (by : ℕ) (v : Passed T) : Type 0 where
    pub puts : v.puts ≡ true → (by ≡ putter) × (v.put ≡ put)
    pub takes : v.takes ≡ true → (by ≡ taker) × (v.taken ≡ taken)

  -- The rule, between any two steps: what was put is what was taken and then the items that wait, in order.
  pub record IsInOrder (items : List T) (views : List (Passed T)) : Type 0 where
    pub putter : ℕ
    pub taker : ℕ
    pub put : List T
    pub taken : List T
    pub order : put ≡ taken ++ items
    pub each : (by : ℕ) (v : Passed T) → get_elem? views by ≡ some v → FitsEnds putter taker put taken by v
