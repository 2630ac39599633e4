-- The settings of an engine, as definitions see them.
use Rattle.session_model.specs.Thread.{Settings}
use Rattle.session_effects.specs.declared.setup.Setup.{Setup}

abbrev pub settings_of : Setup → Settings
settings_of setup = record { turns = setup.turns; classes = setup.classes; functors = setup.functors }
