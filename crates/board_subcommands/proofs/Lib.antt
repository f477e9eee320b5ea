mod BesideLaws
mod SettingsLemmas
