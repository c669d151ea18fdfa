use Rattle.actions.proofs.SettingComplete.{one_setting}
use Rattle.actions.proofs.laws.setting_spells_one_value.Goals as goal

pub returns : goal.returns
returns c = one_setting
