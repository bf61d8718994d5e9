pub mod SectionWords
pub mod KsymsSections
pub mod TypeSources
pub mod KernelTypes

-- What only private contracts and proofs name.
