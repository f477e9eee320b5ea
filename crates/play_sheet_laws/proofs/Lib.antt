mod PlainTemplates
mod TableMarkup
mod GameMarkup
