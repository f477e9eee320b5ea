mod ReadLemmas
mod SaysLemmas
