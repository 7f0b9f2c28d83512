-- The settings, as definitions speak of them.
use Rattle.spec_verdicts.specs.Settings as spec
use Rattle.first_tree.specs.BoundsOf.{bounds_of}
use Rattle.crosshair.specs.declared.settings.Settings.{Settings}

-- what the settings ask for
abbrev pub settings_in : Settings → spec.Settings
settings_in s = record { bounds = bounds_of s.bounds; report_all = s.report_all; targets = s.targets }
