-- Laws of the exported entries.
mod Stepping
mod Slots
mod Lists
mod KernLists
mod KernPairs
mod KernSteps
mod Anchoring
mod Indexing
