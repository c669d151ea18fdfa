mod Attempts
mod Greetings
mod LossLemmas
mod RoundLemmas
mod SharingRounds
