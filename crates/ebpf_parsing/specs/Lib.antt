pub use Rattle.ebpf_sections.specs.Symbols
pub use Rattle.ebpf_sections.specs.Sections
pub use Rattle.ebpf_sections.specs.Relocations
pub use Rattle.ebpf_sections.specs.Records
pub use Rattle.ebpf_sections.specs.Programs
pub use Rattle.ebpf_sections.specs.Texts
pub mod Maps
pub use Rattle.ebpf_sections.specs.LicenseAndVersion
pub mod OfSection
pub mod FileTypes
pub mod FileContents
pub mod Laws
-- What only private contracts and proofs name.
pub mod ObjectTables
