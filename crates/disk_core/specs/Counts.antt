-- What a disk in memory counts, and when it stops or fails.
use Rattle.std.specs.Prelude.{ℕ, ◌+◌, ◌-◌, ◌^◌, ◌==◌, min, Bool, false, Option, None, Some, option_map, Result, Ok, Err, if◌then◌else◌}
use Rattle.disk_core.specs.declared.counts.Counts.{Counts}
use Rattle.disk_core.specs.declared.counts.Injected.{Injected}
use Rattle.disk_core.specs.declared.counts.Injected.TheVariants.{Goes, Fails, Stops}
use Rattle.disk_core.specs.declared.fault.ListFault.{ListFault}
use Rattle.disk_core.specs.declared.fault.ListFault.TheVariants.{Device, NoMemory}

-- one more, up to the last u64
abbrev pub one_more : ℕ → ℕ
one_more n = min (n + 1) (2 ^ 64 - 1)

-- nothing counted, and no call that is to fail
abbrev pub no_counts : Counts
no_counts = record { calls = 0; changes = 0; faults = 0; left = None; fails = 0 }

-- what becomes of the next call where so many changes are left and this call from now fails
abbrev pub injected_of : Option ℕ → ℕ → Injected
injected_of None fails = if fails == 1 then Fails else Goes
injected_of (Some left) fails = if left == 0 then Stops else (if fails == 1 then Fails else Goes)

-- what becomes of the next call
abbrev pub next_injected : Counts → Injected
next_injected counts = injected_of counts.left counts.fails

-- the counts after a call, which may be one that changes something
abbrev pub counted_call : Bool → Counts → Counts
counted_call changes old = record {
  calls = one_more old.calls;
  changes = if changes then one_more old.changes else old.changes;
  faults = old.faults;
  left = if changes then option_map (λ n. n - 1) old.left else old.left;
  fails = old.fails - 1;
}

-- the counts with one fault more
abbrev pub with_fault : Counts → Counts
with_fault old = record old { faults = one_more old.faults }

-- the counts after a call with this outcome
abbrev pub after_call : Bool → Bool → Counts → Counts
after_call changes succeeded old =
    if succeeded then counted_call changes old else with_fault (counted_call changes old)

-- the counts after a listing with this outcome; want of memory for the list is no fault
abbrev pub after_list : {T : Type 0} → Result T ListFault → Counts → Counts
after_list (Ok files) old = counted_call false old
after_list (Err Device) old = with_fault (counted_call false old)
after_list (Err NoMemory) old = counted_call false old
