mod Handed
mod SectionTurns
mod Standing
mod Turns
mod TypeIds
mod WrittenWords
