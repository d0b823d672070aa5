-- The running record: what a reset, a write to either register and a clock make of it, and the level of each clock; document 01, 'Pulses', and M-104.
-- A host may hand over any record. Every step uses its kept form and leaves a kept record, but a play of no clocks and a refused one, which leave it as
-- it came.
-- Assumes nothing.
use Rattle.std.specs.Prelude.{ℕ, zero, suc, ◌+◌, ◌%◌, List, [], ◌∷◌, eqb}
use Rattle.laws.specs.Pick.{pick}
use Rattle.wave.specs.declared.Pair.{Pair}
use Rattle.dac.specs.declared.Dac.{Dac}
use Rattle.wave.specs.Wave.{period, pair, level}

-- how many halves there are: a register keeps 7 bits
abbrev pub halves : ℕ
halves = 128

abbrev pub kept_half : ℕ → ℕ
kept_half byte = byte % halves

abbrev pub kept_pair : Pair → Pair
kept_pair q = pair (kept_half q.coarse) (kept_half q.fine)

-- how many counts of high clocks there are: a pair asks for at most 128 * 127 + 127 of them in a period
abbrev pub counts : ℕ
counts = 16384

abbrev pub kept_count : ℕ → ℕ
kept_count n = n % counts

-- The record by its parts: the position, the halves held, the pair completed last, the pair in force, and how many clocks were high from the last
-- first clock of a period on.
abbrev pub dac_of : ℕ → Pair → Pair → Pair → ℕ → Dac
dac_of p h c f n = record { position = p; held = h; completed = c; in_force = f; high = n }

abbrev pub kept : Dac → Dac
kept d = dac_of (d.position % period) (kept_pair d.held) (kept_pair d.completed) (kept_pair d.in_force) (kept_count d.high)

abbrev pub after_reset : Dac
after_reset = dac_of 0 (pair 0 0) (pair 0 0) (pair 0 0) 0

-- A low half is held, and nothing else changes.
abbrev pub low_written : Dac → ℕ → Dac
low_written d byte =
    let k = kept d in
    dac_of k.position (pair k.held.coarse (kept_half byte)) k.completed k.in_force k.high

-- A high half is held, and makes a completed pair with the low half held then.
abbrev pub high_written : Dac → ℕ → Dac
high_written d byte =
    let k = kept d in
    let made = pair (kept_half byte) k.held.fine in
    dac_of k.position made made k.in_force k.high

-- The pair by which the next clock of a kept record is played: at a period's first clock the pair completed last is put in force.
unfoldable pub playing : Dac → Pair
playing k = pick (eqb k.position 0) k.completed k.in_force

-- the level of that clock
unfoldable pub next_level : Dac → ℕ
next_level k = level (playing k) k.position

-- The count to which it adds its level: a period's first clock starts it anew.
unfoldable pub so_far : Dac → ℕ
so_far k = pick (eqb k.position 0) 0 k.high

-- the record after it
unfoldable pub clocked : Dac → Dac
clocked k = dac_of ((k.position + 1) % period) k.held k.completed (playing k) (kept_count (so_far k + next_level k))

-- the record after c clocks, and their levels in time's order
unfoldable pub after_clocks : ℕ → Dac → Dac
after_clocks zero d = d
after_clocks (suc c) d = after_clocks c (clocked (kept d))

unfoldable pub levels_of : ℕ → Dac → List ℕ
levels_of zero d = []
levels_of (suc c) d = next_level (kept d) ∷ levels_of c (clocked (kept d))
