-- The lemmas of `refusals`; the proof of a function is in the folder of its source file.
mod WordLemmas
mod Examples
