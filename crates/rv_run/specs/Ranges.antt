-- Which numbers of sources, workers and slots a run takes.
use Rattle.std.specs.Prelude.{◌≡◌, ◌<◌, ◌⊎◌, ℕ}
use Rattle.rv_run.specs.declared.running.Settings.{Settings}

-- a number of sources that is not 1 to 8, of workers that is not 1 to 24, or of slots that is not 2
-- to 16
abbrev pub IsOutOfRange : ℕ → Settings → Type 0
IsOutOfRange sources s =
    (sources ≡ 0) ⊎ (8 < sources) ⊎ (s.workers ≡ 0) ⊎ (24 < s.workers) ⊎ (s.slots < 2) ⊎ (16 < s.slots)
